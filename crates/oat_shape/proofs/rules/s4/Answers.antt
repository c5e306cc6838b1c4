use Rattle.std.proofs.Common.{◌∙◌, ap}
use Rattle.oat_image.specs.{entries_of, starts_of}
use Rattle.oat_shape.proofs.RowRules.{s4_from}
use Rattle.oat_shape.proofs.rules.s4.Goals as goal

pub returns : goal.returns
returns c =
    s4_from c.args.image.now.map c.as_slice-3.result.now c.as_slice-4.result.now c.as_slice-5.result.now c.lowest_misled.result c.as_slice-3.ensures
    (c.as_slice-4.ensures.value ∙ c.in_ok-entries.ensures ∙ ap entries_of c.as_slice.ensures)
    (c.as_slice-5.ensures.value ∙ c.in_ok-starts.ensures ∙ ap starts_of c.as_slice-2.ensures)
    c.lowest_misled.ensures
