use Rattle.oat_shape.proofs.RowRules.{s7_from}
use Rattle.oat_shape.proofs.rules.s7.Goals as goal

pub returns : goal.returns
returns c =
    s7_from c.args.image.now.map c.as_slice.result.now c.in_ok-lowest_unpaired.field-0 c.as_slice.ensures c.in_ok-lowest_unpaired.ensures
