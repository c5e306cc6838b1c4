use Rattle.oat_text.proofs.ReadTexts.{program_or_fault}
use Rattle.oat_text.proofs.laws.program_or_fault.Goals as goal

pub returns : goal.returns
returns c = program_or_fault
