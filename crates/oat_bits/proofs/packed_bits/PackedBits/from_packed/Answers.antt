use Rattle.std.proofs.Common.{◌≡◌, ◌+◌, ◌-◌, ◌/◌, ◌%◌, ◌^◌, ℕ, Bool, true, List, get_or, length, arith}
use Rattle.std.specs.Prelude.{slice_index}
use Rattle.std.proofs.lemmas.{List.get_or_default, Grind.div_ceil_times, Result.err_from_is_err_and}
use Rattle.oat_bits.specs.{Packed.packed, Bits.IsPackedForm, Bits.bits_in}
use Rattle.oat_bits.proofs.{PackedForm.length-bits_in, Filling.packed-bits_in, Filling.packed-filled}
use Rattle.oat_bits.proofs.packed_bits.PackedBits.from_packed.Goals as goal
use mir.Val.{Fits}
use mir.Syntax.{w8}

form : (count : ℕ) (bytes : List ℕ) → ((i : ℕ) → Fits w8 (get_or bytes i 0)) → length bytes ≡ (count + 7) / 8 → slice_index bytes (count / 8) % 2 ^ (8 - count % 8) ≡ 0 → packed (bits_in count bytes) ≡ bytes
form count bytes fit long filled = packed-bits_in count bytes long (λ k d within. rw (get_or_default bytes k d 0 within) (let byte = fit k in omega arith)) filled

pub returns-then-not-is_filled-clause-refused : goal.returns-then-not-is_filled-clause-refused
returns-then-not-is_filled-clause-refused c = (long, λ bits form. refuted bits form) where
  long : length c.args.bytes.now ≡ (c.args.count + 7) / 8
  long = omega (arith, div_ceil_times)

  refuted : (bits : List Bool) → IsPackedForm c.args.bytes.now c.args.count bits → ⊥
  refuted bits form =
      let filled : slice_index c.args.bytes.now (c.args.count / 8) % 2 ^ (8 - c.args.count % 8) ≡ 0 = rw (← form.form, ← form.counted) (packed-filled bits) in
      let wrong : c.is_filled.result ≡ true = c.is_filled.ensures.1 filled in
      cc (wrong, c.if-not-is_filled.true)

pub returns-in_err-to_vec-clause-refused : goal.returns-in_err-to_vec-clause-refused
returns-in_err-to_vec-clause-refused c =
    let fault = err_from_is_err_and c.from_residual.result c.from_residual.ensures.1 in
    let long : length c.args.bytes.now ≡ (c.args.count + 7) / 8 = omega (arith, div_ceil_times) in
    let filled : slice_index c.args.bytes.now (c.args.count / 8) % 2 ^ (8 - c.args.count % 8) ≡ 0 = c.is_filled.ensures.0 c.if-not-is_filled.false in
    rw (fault.1, fault.2) (
      bits_in c.args.count c.args.bytes.now,
      record {
        counted = length-bits_in c.args.count c.args.bytes.now;
        form = form c.args.count c.args.bytes.now c.type_inv.bytes long filled;
      },
    )

pub invariant_of-result : goal.invariant_of-result
invariant_of-result c =
    let same : c.in_ok-to_vec.field-0.items ≡ c.args.bytes.now = c.in_ok-to_vec.ensures.items_if_clones_equal (λ x y e. e) in
    let len = c.in_ok-to_vec.ensures.len in
    let long : length c.args.bytes.now ≡ (c.args.count + 7) / 8 = omega (arith, div_ceil_times) in
    let filled : slice_index c.args.bytes.now (c.args.count / 8) % 2 ^ (8 - c.args.count % 8) ≡ 0 = c.is_filled.ensures.0 c.if-not-is_filled.false in record {
      form = rw same (form c.args.count c.args.bytes.now c.type_inv.bytes long filled);
      room = omega arith;
      fits = omega arith;
    }

pub returns-clause-taken : goal.returns-clause-taken
returns-clause-taken c =
    let same : c.in_ok-to_vec.field-0.items ≡ c.args.bytes.now = c.in_ok-to_vec.ensures.items_if_clones_equal (λ x y e. e) in
    let long : length c.args.bytes.now ≡ (c.args.count + 7) / 8 = omega (arith, div_ceil_times) in
    let filled : slice_index c.args.bytes.now (c.args.count / 8) % 2 ^ (8 - c.args.count % 8) ≡ 0 = c.is_filled.ensures.0 c.if-not-is_filled.false in
    rw same record { counted = length-bits_in c.args.count c.args.bytes.now; form = form c.args.count c.args.bytes.now c.type_inv.bytes long filled }
