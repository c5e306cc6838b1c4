use Rattle.oat_replay.proofs.ReplayLemmas as lemmas
use Rattle.oat_replay.proofs.laws.one_path.Goals as goal

pub returns : goal.returns
returns c = lemmas.one_path
