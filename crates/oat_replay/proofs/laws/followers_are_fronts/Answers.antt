use Rattle.oat_replay.proofs.ReplayLemmas as lemmas
use Rattle.oat_replay.proofs.laws.followers_are_fronts.Goals as goal

pub returns : goal.returns
returns c = lemmas.followers_are_fronts
