use Rattle.oat_check.proofs.Cells.{cells_are_words}
use Rattle.oat_check.proofs.laws.cells_are_words.Goals as goal

pub returns : goal.returns
returns c = cells_are_words
