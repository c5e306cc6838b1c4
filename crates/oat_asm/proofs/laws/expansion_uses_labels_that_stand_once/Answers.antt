use Rattle.oat_asm.proofs.ExpansionProofs.{uses_once}
use Rattle.oat_asm.proofs.laws.expansion_uses_labels_that_stand_once.Goals as goal

pub returns : goal.returns
returns c = uses_once
