use Rattle.std.proofs.Common.{◌∙◌, ◌<◌, ap, arith, length, Some, sym}
use Rattle.std.specs.Prelude.{slice_get}
use Rattle.oat_blob.proofs.Reading.{length-targets_in, slice_get-targets_in}
use Rattle.oat_blob.proofs.decoding.BlobRefRecords.target.Goals as goal

pub u64_at-requires : goal.u64_at-requires
u64_at-requires c =
    let count = sym (length-targets_in c.self.inside.target_count c.self.inside.targets.now) ∙ ap (λ shown. length shown.body.targets) c.self.view_is in
    omega (arith, count, c.self.invariant.targets_held)

pub returns : goal.returns
returns c =
    let count = sym (length-targets_in c.self.inside.target_count c.self.inside.targets.now) ∙ ap (λ shown. length shown.body.targets) c.self.view_is in
    let below : c.args.i < c.self.inside.target_count = omega (arith, count) in
    sym (ap (λ shown. slice_get shown.body.targets c.args.i) c.self.view_is)
    ∙ (slice_get-targets_in c.self.inside.target_count c.self.inside.targets.now c.args.i below ∙ sym (ap (λ n. Some n) c.u64_at.ensures))
