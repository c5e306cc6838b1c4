-- Quotients, remainders and shifts of words are words, and a remainder is what the quotient leaves.
use Rattle.std.proofs.Common.{◌≡◌, ◌*◌, ◌/◌, ◌%◌, ◌^◌, ◌<◌, ◌≤◌, ℕ, zero, suc, Bool, true, false, cond, eqb, ℤ, pos, negsuc, ◌+ℤ◌, ◌-ℤ◌, ◌*ℤ◌, neg_ℤ, unsigned_abs, int_div, int_rem, refl, sym, ap}
use Rattle.std.proofs.Common.{◌∙◌, arith, lit<}
use Rattle.std.specs.{Int.w64, Int.int_wrap, Int.int_rem_euclid, Int.Signed.shr_z}
use Rattle.std.proofs.lemmas.{Int.ints, Int.of_z-to_z, Int.wrapping_sub-bits, Int.wrapping_mul-bits, Int.int_wrap-sub_right, Int.int_wrap-mul_left, Int.quot-rem, Bool.cond_both}
use Rattle.oat_bits.specs.{Words.wrap, Words.difference, Words.signed, Words.unsigned, WordLaws.ResultsAreWords, WordLaws.SignedReadsBack, WordLaws.RemaindersAreLeft}
use native.Mathlib.Nat.{div-add-mod', div-le_self, mod-le}

pub signed_reads_back : SignedReadsBack
signed_reads_back value h = of_z-to_z w64 value h

-- ---- integers within 64 bits

signed_abs : (a : ℕ) → a < 2 ^ 64 → unsigned_abs (signed a) ≤ 2 ^ 63
signed_abs a h = omega (arith, ints)

neg_abs : (n : ℕ) → unsigned_abs (neg_ℤ (pos n)) ≡ n
neg_abs zero = refl
neg_abs (suc n) = refl

quotient_abs : (a d : ℤ) → unsigned_abs (int_div a d) ≤ unsigned_abs a
quotient_abs (pos a) (pos b) = div-le_self a b
quotient_abs (pos a) (negsuc b) = omega (arith, neg_abs (a / suc b), div-le_self a (suc b))
quotient_abs (negsuc a) (pos b) = omega (arith, neg_abs (suc a / b), div-le_self (suc a) b)
quotient_abs (negsuc a) (negsuc b) = div-le_self (suc a) (suc b)

remainder_abs : (a d : ℤ) → unsigned_abs (int_rem a d) ≤ unsigned_abs a
remainder_abs (pos a) d = mod-le a (unsigned_abs d)
remainder_abs (negsuc a) d = omega (arith, neg_abs (suc a % unsigned_abs d), mod-le (suc a) (unsigned_abs d))

shift_abs : (a : ℤ) (m : ℕ) → unsigned_abs a ≤ 2 ^ 63 → unsigned_abs (shr_z a m) ≤ 2 ^ 63
shift_abs (pos a) m h = omega (arith, div-le_self a m)
shift_abs (negsuc a) m h = omega (arith, div-le_self a m)

unsigned_below : (z : ℤ) → unsigned_abs z ≤ 2 ^ 63 → unsigned z < 2 ^ 64
unsigned_below (pos n) h = omega arith
unsigned_below (negsuc n) h = omega arith

-- ---- results are words

quotient_within : (a : ℕ) (d : ℤ) → a < 2 ^ 64 → unsigned_abs (int_div (signed a) d) ≤ 2 ^ 63
quotient_within a d h = omega (arith, signed_abs a h, quotient_abs (signed a) d)

remainder_within : (a : ℕ) (d : ℤ) → a < 2 ^ 64 → unsigned_abs (int_rem (signed a) d) ≤ 2 ^ 63
remainder_within a d h = omega (arith, signed_abs a h, remainder_abs (signed a) d)

zero_or : (b v : ℕ) → v < 2 ^ 64 → cond (eqb b 0) 0 v < 2 ^ 64
zero_or b v h = cond_both (eqb b 0) 0 v (λ q. q < 2 ^ 64) (λ _. lit< tt) (λ _. h)

pub results_are_words : ResultsAreWords
results_are_words a b h = (
  zero_or b (a / b) (omega (arith, div-le_self a b)),
  zero_or b (unsigned (int_div (signed a) (signed b))) (unsigned_below (int_div (signed a) (signed b)) (quotient_within a (signed b) h)),
  omega (arith, mod-le a b),
  unsigned_below (int_rem (signed a) (signed b)) (remainder_within a (signed b) h),
  omega (arith, div-le_self a (2 ^ b)),
  unsigned_below (shr_z (signed a) (2 ^ b)) (shift_abs (signed a) (2 ^ b) (signed_abs a h)),
)

-- ---- a remainder is what is left

-- whatever a division by zero gives, nothing of it is taken away
quotient_times : (b q : ℕ) → cond (eqb b 0) 0 q * b ≡ q * b
quotient_times b q = by (eqb b 0) refl where
  by : (t : Bool) → eqb b 0 ≡ t → cond t 0 q * b ≡ q * b
  by false e = refl
  by true e = let none : b ≡ 0 = grind arith in rw none (omega arith)

unsigned_left : (a b : ℕ) → a < 2 ^ 64 → difference a (wrap (a / b * b)) ≡ a % b
unsigned_left a b h = omega (arith, div-add-mod' a b)

bits_are : (z : ℤ) → unsigned_abs z ≤ 2 ^ 63 → unsigned z ≡ unsigned_abs (int_rem_euclid z (pos (2 ^ 64)))
bits_are (pos n) h = omega arith
bits_are (negsuc n) h = omega arith

wrapped : (z : ℤ) → unsigned_abs z ≤ 2 ^ 63 → signed (unsigned z) ≡ int_wrap w64 z
unfolding int_wrap
wrapped z h = ap signed (bits_are z h)

same_bits : (a b : ℕ) → a < 2 ^ 64 → b < 2 ^ 64 → signed a ≡ signed b → a ≡ b
same_bits a b h l e = sym (of_z-to_z w64 a h) ∙ ap unsigned e ∙ of_z-to_z w64 b l

signed_left : (a b : ℕ) → a < 2 ^ 64 → b < 2 ^ 64 → difference a (wrap (unsigned (int_div (signed a) (signed b)) * b)) ≡ unsigned (int_rem (signed a) (signed b))
signed_left a b h l =
    let x : ℤ = signed a in
    let y : ℤ = signed b in
    let q : ℤ = int_div x y in
    let r : ℤ = int_rem x y in
    let q_within : unsigned_abs q ≤ 2 ^ 63 = quotient_within a y h in
    let r_within : unsigned_abs r ≤ 2 ^ 63 = remainder_within a y h in
    let t : ℕ = wrap (unsigned q * b) in
    let t_below : t < 2 ^ 64 = omega arith in
    let product : signed t ≡ int_wrap w64 (q *ℤ y) =
    wrapping_mul-bits w64 (unsigned q) b (unsigned_below q q_within) l ∙ ap (λ (z : ℤ). int_wrap w64 (z *ℤ y)) (wrapped q q_within) ∙ int_wrap-mul_left w64 q y in
    let rest : x -ℤ q *ℤ y ≡ r = less (q *ℤ y) r x (quot-rem x y) in
    same_bits (difference a t) (unsigned r) (omega arith) (unsigned_below r r_within)
    (wrapping_sub-bits w64 a t h t_below ∙ ap (λ (z : ℤ). int_wrap w64 (x -ℤ z)) product ∙ int_wrap-sub_right w64 x (q *ℤ y) ∙ ap (int_wrap w64) rest ∙ sym (wrapped r r_within)) where
      less : (p r x : ℤ) → p +ℤ r ≡ x → x -ℤ p ≡ r
      less p r x e = omega (arith, ints)

left : (a b q r : ℕ) → difference a (wrap (q * b)) ≡ r → difference a (wrap (cond (eqb b 0) 0 q * b)) ≡ r
left a b q r h = ap (λ n. difference a (wrap n)) (quotient_times b q) ∙ h

pub remainders_are_left : RemaindersAreLeft
remainders_are_left a b h l = (left a b _ _ (unsigned_left a b h), left a b _ _ (signed_left a b h l))
