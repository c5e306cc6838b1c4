use Rattle.oat_asm.proofs.LayoutLaws.{notes_in_order}
use Rattle.oat_asm.proofs.laws.notes_are_in_order.Goals as goal

pub returns : goal.returns
returns c = notes_in_order
