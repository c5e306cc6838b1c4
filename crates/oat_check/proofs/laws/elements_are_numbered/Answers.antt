use Rattle.oat_check.proofs.Cells.{elements_are_numbered}
use Rattle.oat_check.proofs.laws.elements_are_numbered.Goals as goal

pub returns : goal.returns
returns c = elements_are_numbered
