use Rattle.std.proofs.Common.{◌∙◌, ◌<◌, ap, arith, length, sym}
use Rattle.std.specs.Prelude.{slice_get}
use Rattle.oat_bits.proofs.PackedForm.{length-bits_in, slice_get-bits_in}
use Rattle.oat_blob.proofs.decoding.BlobRefRecords.bit.Goals as goal

pub bounds-self-inside-i : goal.bounds-self-inside-i
bounds-self-inside-i c =
    let count = sym (length-bits_in c.self.inside.bit_count c.self.inside.bits.now) ∙ ap (λ shown. length shown.body.bits) c.self.view_is in
    omega (arith, count, c.self.invariant.bits_held)

pub returns : goal.returns
returns c =
    let count = sym (length-bits_in c.self.inside.bit_count c.self.inside.bits.now) ∙ ap (λ shown. length shown.body.bits) c.self.view_is in
    let below : c.args.i < c.self.inside.bit_count = omega (arith, count) in
    sym (ap (λ shown. slice_get shown.body.bits c.args.i) c.self.view_is) ∙ slice_get-bits_in c.self.inside.bit_count c.self.inside.bits.now c.args.i below
