use Rattle.oat_shape.proofs.GroupLemmas.{cell_within}
use Rattle.oat_shape.proofs.elements.use_at_stands.Goals as goal

pub use_of_element_stands-requires-clause-index : goal.use_of_element_stands-requires-clause-index
use_of_element_stands-requires-clause-index c =
    cell_within c.args.cells.now c.args.cell c.in-Some.index c.requires.indices c.in-Some.ensures.first
