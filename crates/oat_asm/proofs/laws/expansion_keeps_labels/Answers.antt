use Rattle.oat_asm.proofs.ExpansionProofs.{keeps_labels}
use Rattle.oat_asm.proofs.laws.expansion_keeps_labels.Goals as goal

pub returns : goal.returns
returns c = keeps_labels
