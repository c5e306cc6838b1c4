use Rattle.oat_check.proofs.Cells.{cells_have_words}
use Rattle.oat_check.proofs.laws.cells_have_words.Goals as goal

pub returns : goal.returns
returns c = cells_have_words
