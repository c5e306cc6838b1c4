use Rattle.oat_asm.proofs.LayoutLaws.{of_two}
use Rattle.oat_asm.proofs.laws.layouts_are_of_two.Goals as goal

pub returns : goal.returns
returns c = of_two
