use Rattle.oat_parts.proofs.Assembling.{parts_can_be_expanded}
use Rattle.oat_parts.proofs.laws.parts_can_be_expanded.Goals as goal

pub returns : goal.returns
returns c = parts_can_be_expanded
