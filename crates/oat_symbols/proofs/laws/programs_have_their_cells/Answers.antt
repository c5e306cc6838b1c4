use Rattle.oat_symbols.proofs.Elements.{programs_have_their_cells}
use Rattle.oat_symbols.proofs.laws.programs_have_their_cells.Goals as goal

pub returns : goal.returns
returns c = programs_have_their_cells c.cells_have_words.ensures
