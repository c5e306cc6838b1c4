use Rattle.std.proofs.Common.{◌∙◌, ap}
use Rattle.oat_room_drill.proofs.Making.{report_joined}
use Rattle.oat_room_drill.proofs.drill.drill_text.Goals as goal

pub returns : goal.returns
returns c =
    report_joined c.args.number c.args.outputs c.args.edges c.args.digest.now c.args.verdict.now _ _ _ _ _ _ _
    (ap (λ v. v.items) c.into_bytes-text.ensures.value ∙ c.in_ok-counts.ensures.ok) c.lower_digits.ensures (c.as_slice.ensures.value ∙ c.in_ok-line.ensures)
    c.in_ok-extend_from_slice.ensures.items c.in_ok-extend_from_slice-2.ensures.items c.in_ok-extend_from_slice-3.ensures.items c.in_ok-extend_from_slice-4.ensures.items
