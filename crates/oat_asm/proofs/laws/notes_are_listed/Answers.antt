use Rattle.oat_asm.proofs.LayoutLaws.{notes_listed}
use Rattle.oat_asm.proofs.laws.notes_are_listed.Goals as goal

pub returns : goal.returns
returns c = notes_listed
