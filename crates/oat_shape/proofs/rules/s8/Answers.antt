use Rattle.std.proofs.Common.{sym, ◌∙◌, ap, subst}
use Rattle.std.specs.List.Sorted.{IsStrictlyIncreasing}
use Rattle.oat_image.specs.{entries_of}
use Rattle.oat_shape.specs.{Lowest.Lowest, MapRules.S8}
use Rattle.oat_shape.proofs.NameRules.{s8_from}
use Rattle.oat_shape.proofs.rules.s8.Goals as goal

pub returns : goal.returns
returns c =
    let m = c.args.image.now.map in
    let same = c.as_slice-3.ensures.value ∙ c.in_ok-entries.ensures ∙ ap entries_of c.as_slice.ensures in
    subst (Lowest (S8 m)) (sym c.lower.ensures)
    (s8_from m c.as_slice-2.result.now c.as_slice-4.result.now c.as_slice-3.result.now c.in_ok-function.function c.in_ok-block.block
    c.as_slice-2.ensures c.as_slice-4.ensures same
    (subst IsStrictlyIncreasing (sym same) c.requires.functions_rise)
    c.in_ok-function.ensures c.in_ok-block.ensures)
