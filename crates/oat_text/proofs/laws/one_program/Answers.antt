use Rattle.oat_text.proofs.ReadTexts.{one_program}
use Rattle.oat_text.proofs.laws.one_program.Goals as goal

pub returns : goal.returns
returns c = one_program
