use Rattle.std.proofs.Common.{sym, ◌∙◌}
use Rattle.oat_shape.specs.Groups.{IsUseGroup}
use Rattle.oat_shape.proofs.GroupLemmas.{cell_within, cell_iff, no_cell}
use Rattle.oat_shape.proofs.cells.use_stands.Goals as goal

pub use_of_word_stands-requires-clause-index : goal.use_of_word_stands-requires-clause-index
use_of_word_stands-requires-clause-index c =
    cell_within c.args.cells.now c.args.cell c.in-Some.index c.requires.indices (sym c.word_of_cell.ensures ∙ c.in-Some.is)

pub returns-in-Some : goal.returns-in-Some
returns-in-Some c =
    cell_iff c.args.cells.now c.args.cell c.in-Some.index (IsUseGroup c.args.code.now c.args.at c.args.cell) c.use_of_word_stands.result (sym c.word_of_cell.ensures ∙ c.in-Some.is)
    c.use_of_word_stands.ensures

pub returns-in-None : goal.returns-in-None
returns-in-None c = no_cell c.args.cells.now c.args.cell (IsUseGroup c.args.code.now c.args.at c.args.cell) (sym c.word_of_cell.ensures ∙ c.in-None.is)
