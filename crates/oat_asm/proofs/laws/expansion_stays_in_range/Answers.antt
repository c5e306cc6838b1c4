use Rattle.oat_asm.proofs.ExpansionProofs.{stays_in_range}
use Rattle.oat_asm.proofs.laws.expansion_stays_in_range.Goals as goal

pub returns : goal.returns
returns c = stays_in_range
