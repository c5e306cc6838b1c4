use Rattle.oat_check.proofs.Worked.{elements_are_shown}
use Rattle.oat_check.proofs.laws.elements_are_shown.Goals as goal

pub returns : goal.returns
returns c = elements_are_shown
