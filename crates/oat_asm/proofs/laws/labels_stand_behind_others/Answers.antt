use Rattle.oat_asm.proofs.LayoutLaws.{skipped}
use Rattle.oat_asm.proofs.laws.labels_stand_behind_others.Goals as goal

pub returns : goal.returns
returns c = skipped
