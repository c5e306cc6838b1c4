use Rattle.std.proofs.Common.{◌≡◌, ◌+◌, ◌/◌, ◌<◌, length, refl, ◌∙◌, arith}
use Rattle.std.proofs.lemmas.{Bool.false≢true, Result.err_from_is_err_and}
use Rattle.oat_blob.proofs.{Counted.packed_front, Counted.packed_wanting, Counted.packed_wrong, Fixed.all_bytes, Fixed.cut_bytes}
use Rattle.oat_blob.proofs.reader.packed_bits.Goals as goal

pub returns-in_err-bits-clause-read : goal.returns-in_err-bits-clause-read
returns-in_err-bits-clause-read c =
    let short : length c.args.bytes.now < (c.args.count + 7) / 8 = omega (arith, c.div_ceil.ensures, c.in_err-bits.ensures.0) in
    let p = err_from_is_err_and c.from_residual.result c.from_residual.ensures.1 in
    rw (p.1, p.2) (packed_wanting c.args.count c.args.bytes.now c.in_err-bits.field-0.0.left (all_bytes c.args.bytes.now c.type_inv.bytes) short c.in_err-bits.ensures.1)

pub returns-then-not-is_filled-clause-read : goal.returns-then-not-is_filled-clause-read
returns-then-not-is_filled-clause-read c =
    let cut = c.in_ok-bits.ensures in
    let long : length c.in_ok-bits.bits.now ≡ (c.args.count + 7) / 8 = cut.sized ∙ omega (arith, c.div_ceil.ensures) in
    let below = cut_bytes c.div_ceil.result c.args.bytes.now c.in_ok-bits.bits.now c.in_ok-bits.rest.now cut (all_bytes c.args.bytes.now c.type_inv.bytes) in
    packed_wrong c.args.count c.args.bytes.now c.in_ok-bits.bits.now c.in_ok-bits.rest.now cut.parted long below (λ filling. false≢true (c.if-not-is_filled.ensures.1 filling))

pub returns-clause-read : goal.returns-clause-read
returns-clause-read c =
    let cut = c.in_ok-bits.ensures in
    let long : length c.in_ok-bits.bits.now ≡ (c.args.count + 7) / 8 = cut.sized ∙ omega (arith, c.div_ceil.ensures) in
    let below = cut_bytes c.div_ceil.result c.args.bytes.now c.in_ok-bits.bits.now c.in_ok-bits.rest.now cut (all_bytes c.args.bytes.now c.type_inv.bytes) in
    packed_front c.args.count c.args.bytes.now c.in_ok-bits.bits.now c.in_ok-bits.rest.now cut.parted long below (c.if-not-is_filled.ensures.0 refl)
