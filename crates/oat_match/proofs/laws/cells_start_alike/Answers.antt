use Rattle.oat_match.proofs.Starting.{cells_start_alike}
use Rattle.oat_match.proofs.laws.cells_start_alike.Goals as goal

pub returns : goal.returns
returns c = cells_start_alike c.cells_are_words.ensures c.cell_words_are_there.ensures
