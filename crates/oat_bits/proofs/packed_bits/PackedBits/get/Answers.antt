use Rattle.std.proofs.Common.{◌≡◌, ◌<◌, ◌/◌, length, ap, sym, ◌∙◌, arith}
use Rattle.std.specs.Prelude.{slice_get, slice_index}
use Rattle.std.proofs.lemmas.List.{get_or_default}
use Rattle.oat_bits.specs.Bits.{bits_in}
use Rattle.oat_bits.proofs.PackedForm.{length-bits_in, length-packed, slice_get-bits_in}
use Rattle.oat_bits.proofs.packed_bits.PackedBits.get.Goals as goal

pub index-byte-requires : goal.index-byte-requires
index-byte-requires c =
    let count = sym (length-bits_in c.self.inside.count c.self.inside.bytes.items) ∙ ap (λ shown. length shown.bits) c.self.view_is in
    let bytes = sym (ap length c.self.invariant.form) ∙ length-packed (bits_in c.self.inside.count c.self.inside.bytes.items) in
    let counted = length-bits_in c.self.inside.count c.self.inside.bytes.items in
    omega (arith, count, bytes, counted)

pub returns : goal.returns
returns c =
    let count = sym (length-bits_in c.self.inside.count c.self.inside.bytes.items) ∙ ap (λ shown. length shown.bits) c.self.view_is in
    let bytes = sym (ap length c.self.invariant.form) ∙ length-packed (bits_in c.self.inside.count c.self.inside.bytes.items) in
    let counted = length-bits_in c.self.inside.count c.self.inside.bytes.items in
    let below : c.args.i < c.self.inside.count = omega (arith, count) in
    let byte : c.index-byte.result.now ≡ slice_index c.self.inside.bytes.items (c.args.i / 8) = c.index-byte.ensures ∙ get_or_default c.self.inside.bytes.items (c.args.i / 8) _ 0 (omega (arith, bytes, counted)) in
    rw byte (sym (ap (λ shown. slice_get shown.bits c.args.i) c.self.view_is) ∙ slice_get-bits_in c.self.inside.count c.self.inside.bytes.items c.args.i below)
