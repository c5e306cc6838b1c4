use Rattle.oat_asm.proofs.ExpansionProofs.{leaves_no_mark}
use Rattle.oat_asm.proofs.laws.expansion_leaves_no_mark.Goals as goal

pub returns : goal.returns
returns c = leaves_no_mark
