use Rattle.std.proofs.Common.{sym, ◌∙◌}
use Rattle.oat_shape.specs.Groups.{IsDefineGroup}
use Rattle.oat_shape.proofs.GroupLemmas.{cell_within, cell_iff, no_cell}
use Rattle.oat_shape.proofs.cells.define_stands.Goals as goal

pub define_of_word_stands-requires-clause-index : goal.define_of_word_stands-requires-clause-index
define_of_word_stands-requires-clause-index c =
    cell_within c.args.cells.now c.args.cell c.in-Some.index c.requires.indices (sym c.word_of_cell.ensures ∙ c.in-Some.is)

pub returns-in-Some : goal.returns-in-Some
returns-in-Some c =
    cell_iff c.args.cells.now c.args.cell c.in-Some.index (IsDefineGroup c.args.code.now c.args.at c.args.cell) c.define_of_word_stands.result (sym c.word_of_cell.ensures ∙ c.in-Some.is)
    c.define_of_word_stands.ensures

pub returns-in-None : goal.returns-in-None
returns-in-None c = no_cell c.args.cells.now c.args.cell (IsDefineGroup c.args.code.now c.args.at c.args.cell) (sym c.word_of_cell.ensures ∙ c.in-None.is)
