use Rattle.oat_replay.proofs.ReplayLemmas as lemmas
use Rattle.oat_replay.proofs.laws.never_both.Goals as goal

pub returns : goal.returns
returns c = lemmas.never_both
