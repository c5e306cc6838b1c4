use Rattle.oat_asm.proofs.LayoutLaws.{rise}
use Rattle.oat_asm.proofs.laws.places_rise.Goals as goal

pub returns : goal.returns
returns c = rise
