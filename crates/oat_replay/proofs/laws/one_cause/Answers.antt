use Rattle.oat_replay.proofs.OneStuck as lemmas
use Rattle.oat_replay.proofs.laws.one_cause.Goals as goal

pub returns : goal.returns
returns c = lemmas.one_stuck
