-- Shifts by 64 and more, which leave nothing of the low 64 bits.
use Rattle.std.proofs.Common.{◌≡◌, ℕ, ◌+◌, ◌-◌, ◌*◌, ◌/◌, ◌%◌, ◌^◌, ◌<◌, ◌≤◌, arith, subst}
use Rattle.std.proofs.Math.{Pow.pow_mono, Nat.div-eq_of_lt, Nat.mod-eq_of_lt}
use Rattle.std.proofs.lemmas.Nat.{pow-add}
use Rattle.oat_a64.specs.{shifted_left, Step.with_bits}

shifted_left-over : (v j : ℕ) → shifted_left v (j + 64) ≡ 0
shifted_left-over v j = rw (pow-add 2 j 64) (omega arith)

pub shifted_left-out : (v k : ℕ) → 64 ≤ k → shifted_left v k ≡ 0
shifted_left-out v k h =
    let e : k - 64 + 64 ≡ k = omega arith in
    subst (λ i. shifted_left v i ≡ 0) e (shifted_left-over v (k - 64))

pub with_bits-out : (v k bits : ℕ) → v < 2 ^ 64 → 64 ≤ k → with_bits v k bits ≡ v
with_bits-out v k bits small h =
    let within : 2 ^ 64 ≤ 2 ^ k = pow_mono {i = 64} {j = k} h in
    let above : 2 ^ 64 ≤ 2 ^ (k + 16) = pow_mono {i = 64} {j = k + 16} (omega arith) in
    let high : v / 2 ^ (k + 16) ≡ 0 = div-eq_of_lt (omega arith) in
    let low : v % 2 ^ k ≡ v = mod-eq_of_lt (omega arith) in
    let none : bits * 2 ^ k % 2 ^ 64 ≡ 0 = shifted_left-out bits k h in
    rw (high, low) (omega (arith, none))
