-- A word is what stands above a field, the field, and what stands below it.
use Rattle.std.proofs.Common.{◌≡◌, ℕ, ◌+◌, ◌-◌, ◌*◌, ◌/◌, ◌%◌, ◌^◌, ◌<◌, ◌≤◌, sym, ap, subst, ◌∙◌, arith, add_comm, add_assoc, mod-eq_of_lt, inl, inr}
use Rattle.std.specs.Int.{bit_at}
use Rattle.std.proofs.Math.{Nat.mul_assoc, Nat.mul_comm, Nat.add-mul, Pow.mod-mod-pow}
use Rattle.std.proofs.lemmas.Nat.{pow_pos, pow-add, mod-pow-add, field_of, shr_split, shr_below, shr-shr, mod_below, mul-add-lt, shr_high, mod_low}
use Rattle.oat_bits.specs.Field.{field, with_field, ReadsBack, KeepsOthers}

pub parts : (low width word : ℕ) → with_field low width word (field low width word) ≡ word
parts low width word =
    let split : word / 2 ^ (low + width) * 2 ^ (low + width) + word % 2 ^ (low + width) ≡ word = shr_split word (low + width) in
    let halves : word % 2 ^ (low + width) ≡ word / 2 ^ low % 2 ^ width * 2 ^ low + word % 2 ^ low = rw (add_comm low width) (mod-pow-add word width low) in
    omega (arith, split, halves)

-- the field and what stands below it are less than one step of what stands above
pub below : (low width word value : ℕ) → value < 2 ^ width → value * 2 ^ low + word % 2 ^ low < 2 ^ (low + width)
below low width word value fits =
    rw (pow-add 2 low width) (mul-add-lt value (2 ^ low) (word % 2 ^ low) (2 ^ width) fits (mod_below word (2 ^ low) (pow_pos low)))

pub with_field_fits : (low width word value rest : ℕ) → low + width + rest ≡ 32 → word < 2 ^ 32 → value < 2 ^ width → with_field low width word value < 2 ^ 32
with_field_fits low width word value rest within fits small =
    let whole : 2 ^ (low + width) * 2 ^ rest ≡ 2 ^ 32 = sym (pow-add 2 (low + width) rest) ∙ ap (λ n. 2 ^ n) within in
    let above : word / 2 ^ (low + width) < 2 ^ rest = shr_below word rest (low + width) (rw (add_comm rest (low + width), within) fits) in
    let all : word / 2 ^ (low + width) * 2 ^ (low + width) + (value * 2 ^ low + word % 2 ^ low) < 2 ^ (low + width) * 2 ^ rest =
    mul-add-lt (word / 2 ^ (low + width)) (2 ^ (low + width)) (value * 2 ^ low + word % 2 ^ low) (2 ^ rest) above (below low width word value small) in
    omega (arith, all, whole)

joined : (q a b v : ℕ) → q * (a * b) + v * a ≡ (q * b + v) * a
joined q a b v = rw (add-mul (q * b) v a, mul_assoc q b a, mul_comm b a)

pub above_low : (low width word value : ℕ) → with_field low width word value ≡ (word / 2 ^ (low + width) * 2 ^ width + value) * 2 ^ low + word % 2 ^ low
above_low low width word value =
    ap (λ n. n + word % 2 ^ low) (ap (λ n. word / 2 ^ (low + width) * n + value * 2 ^ low) (pow-add 2 low width) ∙ joined (word / 2 ^ (low + width)) (2 ^ low) (2 ^ width) value)

pub reads_back : ReadsBack
reads_back low width word value fits =
    rw (above_low low width word value, shr_high (word / 2 ^ (low + width) * 2 ^ width + value) low (word % 2 ^ low) (mod_below word (2 ^ low) (pow_pos low)))
    (mod_low (word / 2 ^ (low + width)) width value fits)

-- a bit below a place is known from what stands below that place
low_bit : (n k rest : ℕ) → bit_at (n % 2 ^ (rest + (1 + k))) k ≡ bit_at n k
low_bit n k rest = sym (field_of (n % 2 ^ (rest + (1 + k))) 1 k) ∙ ap (λ m. m / 2 ^ k) (mod-mod-pow n rest (1 + k)) ∙ field_of n 1 k

pub low_bits : (low n m k : ℕ) → k < low → n % 2 ^ low ≡ m % 2 ^ low → bit_at n k ≡ bit_at m k
low_bits low n m k under same =
    let place : low ≡ (low - (1 + k)) + (1 + k) = omega arith in
    let bit : (x : ℕ) → bit_at (x % 2 ^ low) k ≡ bit_at x k = λ x. subst (λ (p : ℕ). bit_at (x % 2 ^ p) k ≡ bit_at x k) (sym place) (low_bit x k (low - (1 + k))) in
    sym (bit n) ∙ ap (λ x. bit_at x k) same ∙ bit m

high_bits : (high n m k : ℕ) → high ≤ k → n / 2 ^ high ≡ m / 2 ^ high → bit_at n k ≡ bit_at m k
high_bits high n m k over same =
    let place : high + (k - high) ≡ k = omega arith in
    let bit : (x : ℕ) → x / 2 ^ high / 2 ^ (k - high) ≡ x / 2 ^ k = λ x. shr-shr x high (k - high) ∙ ap (λ p. x / 2 ^ p) place in
    ap (λ x. x % 2) (sym (bit n) ∙ ap (λ x. x / 2 ^ (k - high)) same ∙ bit m)

pub keeps_others : KeepsOthers
keeps_others low width word value k fits (inl under) =
    low_bits low (with_field low width word value) word k under
    (rw (above_low low width word value) (mod_low (word / 2 ^ (low + width) * 2 ^ width + value) low (word % 2 ^ low) (mod_below word (2 ^ low) (pow_pos low))))
keeps_others low width word value k fits (inr over) =
    high_bits (low + width) (with_field low width word value) word k over
    (rw add_assoc (shr_high (word / 2 ^ (low + width)) (low + width) (value * 2 ^ low + word % 2 ^ low) (below low width word value fits)))

-- taking the old field away and adding the new one leaves 32 bits at no step
pub put_is : (low width word value old : ℕ) → low + width ≤ 32 → word < 2 ^ 32 → value < 2 ^ width → old ≡ field low width word →
    (word - old * 2 ^ low % 2 ^ 32 + value * 2 ^ low % 2 ^ 32 ≡ with_field low width word value) × (with_field low width word value < 2 ^ 32)
put_is low width word value old within fits small e =
    let whole : with_field low width word old ≡ word = rw e (parts low width word) in
    let bound : with_field low width word value < 2 ^ 32 = with_field_fits low width word value (32 - (low + width)) (omega arith) fits small in
    let taken : old * 2 ^ low % 2 ^ 32 ≡ old * 2 ^ low = mod-eq_of_lt (omega (arith, whole)) in
    let given : value * 2 ^ low % 2 ^ 32 ≡ value * 2 ^ low = mod-eq_of_lt (omega (arith, bound)) in
    (rw (taken, given) (omega (arith, whole)), bound)
