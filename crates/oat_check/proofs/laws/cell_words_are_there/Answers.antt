use Rattle.oat_check.proofs.Cells.{cell_words_are_there}
use Rattle.oat_check.proofs.laws.cell_words_are_there.Goals as goal

pub returns : goal.returns
returns c = cell_words_are_there
