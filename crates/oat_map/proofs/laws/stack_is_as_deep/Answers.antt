use Rattle.oat_map.proofs.StackLemmas.{depth-is}
use Rattle.oat_map.proofs.laws.stack_is_as_deep.Goals as goal

pub returns : goal.returns
returns c = depth-is
