use Rattle.std.proofs.Common.{◌≡◌, ◌∙◌, ◌<◌, ◌+◌, ◌-◌, ◌/◌, ◌%◌, ◌^◌, List, ℕ, Some, ap, arith, length, sym, take, drop, bit_and}
use Rattle.std.specs.Prelude.{slice_get, slice_index, ◌==◌}
use Rattle.oat_bits.proofs.PackedForm.{length-bits_in, slice_get-bits_in}
use Rattle.oat_verify.specs.{bits_in}
use Rattle.oat_feed.proofs.kept.KeptRecords.bit.Goals as goal

bit_read : (count i : ℕ) (held bytes : List ℕ) → held ≡ bytes → i < count → slice_get (bits_in count bytes) i ≡ Some (bit_and (slice_index held (i / 8) / 2 ^ (7 - i % 8)) 1 == 1)
bit_read count i held bytes same below =
    slice_get-bits_in count bytes i below ∙ ap (λ (xs : List ℕ). Some (bit_and (slice_index xs (i / 8) / 2 ^ (7 - i % 8)) 1 == 1)) (sym same)

pub bounds-bits-i : goal.bounds-bits-i
bounds-bits-i c =
    let count = sym (length-bits_in c.self.inside.places.bit_count _) ∙ ap (λ records. length records.bits) c.self.view_is in
    omega (arith, count, c.self.invariant.bits, c.split_at-2.ensures.front_len, c.div_ceil.ensures)

pub returns : goal.returns
returns c =
    let count = sym (length-bits_in c.self.inside.places.bit_count _) ∙ ap (λ records. length records.bits) c.self.view_is in
    let below : c.args.i < c.self.inside.places.bit_count = omega (arith, count) in
    let size : c.div_ceil.result ≡ (c.self.inside.places.bit_count + 7) / 8 = omega (arith, c.div_ceil.ensures) in
    let bits : c.split_at-2.result.0.now ≡ take ((c.self.inside.places.bit_count + 7) / 8) (drop c.self.inside.places.bits_at c.self.inside.bytes.items) =
    c.split_at-2.ensures.front ∙ (ap (λ n. take n c.split_at.result.1.now) size
    ∙ ap (take ((c.self.inside.places.bit_count + 7) / 8)) (c.split_at.ensures.back ∙ ap (drop c.self.inside.places.bits_at) c.deref.ensures.value)) in
    sym (ap (λ records. slice_get records.bits c.args.i) c.self.view_is) ∙ bit_read c.self.inside.places.bit_count c.args.i _ _ bits below
