use Rattle.oat_asm.proofs.LayoutLaws.{follow}
use Rattle.oat_asm.proofs.laws.items_follow_one_another.Goals as goal

pub returns : goal.returns
returns c = follow
