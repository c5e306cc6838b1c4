use Rattle.oat_map.proofs.WorkedLemmas.{jump_walked}
use Rattle.oat_map.proofs.laws.jump_is_walked.Goals as goal

pub returns : goal.returns
returns c = jump_walked
