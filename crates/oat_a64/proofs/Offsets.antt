-- The fields of an instruction are those that its word has in their places, so no word is that of two.
use Rattle.std.proofs.Common.{◌≡◌, ℕ, ◌+◌, ◌-◌, ◌*◌, ◌%◌, ◌^◌, ◌<◌, ◌≤◌, sym, ap, ◌∙◌, arith, lit<}
use Rattle.std.specs.Prelude.{ℤ, pos, negsuc, true, false, nat_lt}
use Rattle.std.proofs.Math.Nat.{pow-le-pow_right}
use Rattle.std.proofs.lemmas.{Bool.lt-ltb, Bool.le-ltb, Nat.pow-add, Nat.one_shl, Bool.Decides.nat_tests}
use Rattle.oat_a64.specs.{Table.FitsSigned, Table.twos_complement, Table.is_condition, Fetch.from_twos_complement}

pub below : (width : ℕ) (z : ℤ) → FitsSigned width z → twos_complement width z < 2 ^ width
below width (pos n) h = omega arith
below width (negsuc n) h = omega arith

pub signed_back : (width half n : ℕ) (z : ℤ) → 2 ^ width ≡ 2 * half → FitsSigned width z → twos_complement width z ≡ n → z ≡ from_twos_complement width n
signed_back width half n (pos m) even h e =
    let test : nat_lt (2 * n) (2 ^ width) ≡ true = lt-ltb (2 * n) (2 ^ width) (omega arith) in
    rw test (ap pos e)
signed_back width half n (negsuc m) even h e =
    let test : nat_lt (2 * n) (2 ^ width) ≡ false = le-ltb (2 * n) (2 ^ width) (omega arith) in
    rw test (ap negsuc (omega arith))

pub condition_below : (c : ℕ) → is_condition c ≡ true → c < 2 ^ 4
condition_below c h = grind (arith, nat_tests)

-- the lower half of the numbers of some bits
pub lower_half : (width n : ℕ) → 1 ≤ width → width < 32 → n < 1 * 2 ^ (width - 1) % 2 ^ 32 → (2 * n < 2 ^ width) × (n < 2 ^ 31)
lower_half width n wide within h =
    let place : 1 + (width - 1) ≡ width = omega arith in
    let power : 2 ^ width ≡ 2 ^ 1 * 2 ^ (width - 1) = ap (λ k. 2 ^ k) (sym place) ∙ pow-add 2 1 (width - 1) in
    let step : 1 * 2 ^ (width - 1) % 2 ^ 32 ≡ 2 ^ (width - 1) = one_shl (width - 1) 32 (omega arith) in
    let most : 2 ^ (width - 1) ≤ 2 ^ 31 = pow-le-pow_right (lit< tt) {i = width - 1} {j = 31} (omega arith) in
    (omega arith, omega arith)
