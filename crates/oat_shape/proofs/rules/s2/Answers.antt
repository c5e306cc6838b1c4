use Rattle.oat_shape.proofs.RowRules.{s2_from}
use Rattle.oat_shape.proofs.rules.s2.Goals as goal

pub returns : goal.returns
returns c = s2_from c.args.image.now.map c.as_slice.result.now c.lowest_overlap.result c.as_slice.ensures c.lowest_overlap.ensures
