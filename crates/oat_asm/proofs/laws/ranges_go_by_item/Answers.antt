use Rattle.oat_asm.proofs.RangeLaws.{ranges_go_by_item}
use Rattle.oat_asm.proofs.laws.ranges_go_by_item.Goals as goal

pub returns : goal.returns
returns c = ranges_go_by_item
