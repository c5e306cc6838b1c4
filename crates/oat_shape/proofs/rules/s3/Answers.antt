use Rattle.std.proofs.Common.{Option, ℕ, sym, subst}
use Rattle.oat_shape.specs.{Lowest.Lowest, Shape.S3}
use Rattle.oat_shape.proofs.PlaceRules.{are_apart, s3_from}
use Rattle.oat_shape.proofs.rules.s3.Goals as goal

pub lowest_loose_transfer-requires-clause-apart : goal.lowest_loose_transfer-requires-clause-apart
lowest_loose_transfer-requires-clause-apart c = are_apart c.args.image.now c.as_slice-rows.result.now c.as_slice-rows.ensures c.requires.rises

pub returns : goal.returns
returns c =
    subst (λ (lowest : Option ℕ). Lowest (S3 c.args.image.now) lowest) (sym c.lower.ensures)
    (s3_from c.args.image.now c.as_slice-code.result.now c.as_slice.result.now c.as_slice-rows.result.now c.lowest_loose_transfer.result
    c.lowest_broken_group.result c.as_slice-code.ensures c.as_slice.ensures c.as_slice-rows.ensures c.lowest_loose_transfer.ensures
    c.lowest_broken_group.ensures)
