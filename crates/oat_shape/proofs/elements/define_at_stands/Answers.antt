use Rattle.oat_shape.proofs.GroupLemmas.{cell_within}
use Rattle.oat_shape.proofs.elements.define_at_stands.Goals as goal

pub define_of_element_stands-requires-clause-index : goal.define_of_element_stands-requires-clause-index
define_of_element_stands-requires-clause-index c =
    cell_within c.args.cells.now c.args.cell c.in-Some.index c.requires.indices c.in-Some.ensures.first
