use Rattle.oat_langrun.proofs.Worked.{cells_are_shown}
use Rattle.oat_langrun.proofs.laws.cells_are_shown.Goals as goal

pub returns : goal.returns
returns c = cells_are_shown
