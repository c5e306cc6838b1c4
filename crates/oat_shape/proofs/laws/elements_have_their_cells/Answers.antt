use Rattle.oat_shape.proofs.Laid.{elements_have_cells}
use Rattle.oat_shape.proofs.laws.elements_have_their_cells.Goals as goal

pub returns : goal.returns
returns c = elements_have_cells
