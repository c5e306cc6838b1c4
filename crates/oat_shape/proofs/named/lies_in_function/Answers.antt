use Rattle.oat_shape.proofs.Searches.{lies_then, lies_else}
use Rattle.oat_shape.proofs.named.lies_in_function.Goals as goal

pub returns-then-number_below-gt0 : goal.returns-then-number_below-gt0
returns-then-number_below-gt0 c =
    lies_then c.args.entries.now c.args.place c.number_below.result c.is_one_of.result c.requires c.number_below.ensures
    c.if-number_below-gt0.true c.is_one_of.ensures

pub returns-else-number_below-gt0 : goal.returns-else-number_below-gt0
returns-else-number_below-gt0 c =
    lies_else c.args.entries.now c.args.place c.number_below.result c.requires c.number_below.ensures c.if-number_below-gt0.false
