use Rattle.oat_asm.proofs.LayoutLaws.{labels_listed}
use Rattle.oat_asm.proofs.laws.labels_are_listed.Goals as goal

pub returns : goal.returns
returns c = labels_listed
