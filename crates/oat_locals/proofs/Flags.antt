-- The flags of SUBS, and the six comparisons of the source.
use Rattle.std.proofs.Common.{◌≡◌, ◌+◌, ◌-◌, ◌*◌, ◌^◌, ◌<◌, ◌≤◌, ◌⊎◌, inl, inr, ℕ, zero, suc, ℤ, pos, negsuc, ◌-ℤ◌, Bool, true, false, not, ◌&&◌, ◌||◌, eqb, ltb, leb, int_lt, int_le, refl, sym, ap}
use Rattle.std.proofs.Common.{◌∙◌, arith, eq-eqb, ne_eqb}
use Rattle.std.specs.{Bool.beq, Int.w64}
use Rattle.std.proofs.lemmas.{Bool.cases_lt, Bool.le-leb, Bool.lt-leb, Bool.lt-ltb, Bool.le-ltb, Int.ints, Int.to_z_pos}
use Rattle.oat_asm.specs.{signed}
use Rattle.oat_frames.specs.{fits_signed, difference}
use Rattle.oat_locals.specs.Flags.{FlagsCompare}

-- ---- the difference, and the integer that it stands for

negative : (a : ℕ) → 2 ^ 63 ≤ a → a < 2 ^ 64 → signed a ≡ negsuc (2 ^ 64 - suc a)
negative a low high = rw (le-ltb a (2 ^ 63) low) refl

rises : (a b d : ℕ) → a < 2 ^ 64 → b < 2 ^ 64 → signed a -ℤ signed b ≡ pos d → difference a b ≡ d
rises a b d h l e = by (cases_lt a (2 ^ 63)) (cases_lt b (2 ^ 63)) where
  by : (a < 2 ^ 63) ⊎ (2 ^ 63 ≤ a) → (b < 2 ^ 63) ⊎ (2 ^ 63 ≤ b) → difference a b ≡ d
  by (inl p) (inl q) = omega (arith, ints, to_z_pos w64 a p, to_z_pos w64 b q)
  by (inl p) (inr q) = omega (arith, ints, to_z_pos w64 a p, negative b q l)
  by (inr p) (inl q) = omega (arith, ints, negative a p h, to_z_pos w64 b q)
  by (inr p) (inr q) = omega (arith, ints, negative a p h, negative b q l)

falls : (a b d : ℕ) → a < 2 ^ 64 → b < 2 ^ 64 → signed a -ℤ signed b ≡ negsuc d → difference a b + suc d ≡ 2 ^ 64
falls a b d h l e = by (cases_lt a (2 ^ 63)) (cases_lt b (2 ^ 63)) where
  by : (a < 2 ^ 63) ⊎ (2 ^ 63 ≤ a) → (b < 2 ^ 63) ⊎ (2 ^ 63 ≤ b) → difference a b + suc d ≡ 2 ^ 64
  by (inl p) (inl q) = omega (arith, ints, to_z_pos w64 a p, to_z_pos w64 b q)
  by (inl p) (inr q) = omega (arith, ints, to_z_pos w64 a p, negative b q l)
  by (inr p) (inl q) = omega (arith, ints, negative a p h, to_z_pos w64 b q)
  by (inr p) (inr q) = omega (arith, ints, negative a p h, negative b q l)

not-less : (x y : ℤ) (d : ℕ) → x -ℤ y ≡ pos d → int_lt x y ≡ false
not-less x y d e = grind (arith, ints)

less : (x y : ℤ) (d : ℕ) → x -ℤ y ≡ negsuc d → int_lt x y ≡ true
less x y d e = grind (arith, ints)

at-most : (x y : ℤ) (d : ℕ) → x -ℤ y ≡ negsuc d → int_le x y ≡ true
at-most x y d e = grind (arith, ints)

above : (x y : ℤ) (d : ℕ) → x -ℤ y ≡ pos (suc d) → int_le x y ≡ false
above x y d e = grind (arith, ints)

equal : (x y : ℤ) → x -ℤ y ≡ pos 0 → int_le x y ≡ true
equal x y e = grind (arith, ints)

-- ---- N and V

-- N and V of a difference that isn't negative, and of one that is
agree : (t : ℕ) (d : ℕ) → t ≡ d → beq (leb (2 ^ 63) t) (not (ltb (2 * d) (2 ^ 64))) ≡ true
agree t d e = by (cases_lt d (2 ^ 63)) where
  by : (d < 2 ^ 63) ⊎ (2 ^ 63 ≤ d) → beq (leb (2 ^ 63) t) (not (ltb (2 * d) (2 ^ 64))) ≡ true
  by (inl l) = rw (lt-leb (2 ^ 63) t (omega arith), lt-ltb (2 * d) (2 ^ 64) (omega arith)) refl
  by (inr l) = rw (le-leb (2 ^ 63) t (omega arith), le-ltb (2 * d) (2 ^ 64) (omega arith)) refl

differ : (t : ℕ) (d : ℕ) → t + suc d ≡ 2 ^ 64 → beq (leb (2 ^ 63) t) (not (ltb (2 * d) (2 ^ 64))) ≡ false
differ t d e = by (cases_lt d (2 ^ 63)) where
  by : (d < 2 ^ 63) ⊎ (2 ^ 63 ≤ d) → beq (leb (2 ^ 63) t) (not (ltb (2 * d) (2 ^ 64))) ≡ false
  by (inl l) = rw (le-leb (2 ^ 63) t (omega arith), lt-ltb (2 * d) (2 ^ 64) (omega arith)) refl
  by (inr l) = rw (lt-leb (2 ^ 63) t (omega arith), le-ltb (2 * d) (2 ^ 64) (omega arith)) refl

abbrev same_sign : ℕ → ℤ → Bool
same_sign t z = beq (leb (2 ^ 63) t) (not (fits_signed 64 z))

-- N equals V where the first isn't less
pub n-is-v : (a b : ℕ) → a < 2 ^ 64 → b < 2 ^ 64 → same_sign (difference a b) (signed a -ℤ signed b) ≡ not (int_lt (signed a) (signed b))
n-is-v a b h l = by (signed a -ℤ signed b) refl where
  by : (z : ℤ) → signed a -ℤ signed b ≡ z → same_sign (difference a b) (signed a -ℤ signed b) ≡ not (int_lt (signed a) (signed b))
  by (pos d) e = ap (same_sign (difference a b)) e ∙ agree (difference a b) d (rises a b d h l e) ∙ sym (ap not (not-less (signed a) (signed b) d e))
  by (negsuc d) e = ap (same_sign (difference a b)) e ∙ differ (difference a b) d (falls a b d h l e) ∙ sym (ap not (less (signed a) (signed b) d e))

-- Z is clear and N equals V where the first is greater
pub z-n-v : (a b : ℕ) → a < 2 ^ 64 → b < 2 ^ 64 → not (eqb (difference a b) 0) && same_sign (difference a b) (signed a -ℤ signed b) ≡ not (int_le (signed a) (signed b))
z-n-v a b h l = by (signed a -ℤ signed b) refl where
  by : (z : ℤ) → signed a -ℤ signed b ≡ z → not (eqb (difference a b) 0) && same_sign (difference a b) (signed a -ℤ signed b) ≡ not (int_le (signed a) (signed b))
  by (pos zero) e = rw (eq-eqb (difference a b) 0 (rises a b 0 h l e), equal (signed a) (signed b) e) refl
  by (pos (suc d)) e =
      rw (ne_eqb (difference a b) 0 (λ n. let r : difference a b ≡ suc d = rises a b (suc d) h l e in omega arith), above (signed a) (signed b) d e) (ap (same_sign (difference a b)) e ∙ agree (difference a b) (suc d) (rises a b (suc d) h l e))
  by (negsuc d) e =
      rw (at-most (signed a) (signed b) d e) (ap (λ (t : Bool). not (eqb (difference a b) 0) && t) (ap (same_sign (difference a b)) e ∙ differ (difference a b) d (falls a b d h l e)) ∙ none (not (eqb (difference a b) 0))) where
        none : (t : Bool) → t && false ≡ false
        none true = refl
        none false = refl

-- Z where they are equal
pub z-is : (a b : ℕ) → a < 2 ^ 64 → b < 2 ^ 64 → eqb (difference a b) 0 ≡ eqb a b
z-is a b h l = by (eqb a b) refl where
  by : (t : Bool) → eqb a b ≡ t → eqb (difference a b) 0 ≡ eqb a b
  by true e = grind arith
  by false e = grind arith

-- C is set and Z is clear where the first is greater, unsigned
pub c-z : (a b : ℕ) → a < 2 ^ 64 → b < 2 ^ 64 → leb b a && not (eqb (difference a b) 0) ≡ not (leb a b)
c-z a b h l = rw (z-is a b h l) (grind arith)

-- ---- the conditions

turned : (t u : Bool) → t ≡ not u → not t ≡ u
turned t true e = ap not e
turned t false e = ap not e

-- LE and LS from GT and HI
either : (z s u : Bool) → not z && s ≡ not u → z || not s ≡ u
either true s true e = refl
either true s false e = absurd (cc)
either false s u e = turned s u e

other : (c z u : Bool) → c && not z ≡ not u → not c || z ≡ u
other true z u e = back z u e where
  back : (z u : Bool) → not z ≡ not u → z ≡ u
  back true true e = refl
  back true false e = absurd (cc)
  back false true e = absurd (cc)
  back false false e = refl
other false z true e = refl
other false z false e = absurd (cc)

not-under : (a b : ℕ) → not (leb b a) ≡ ltb a b
not-under a b = grind arith

pub flags-compare : FlagsCompare
flags-compare = record {
  equal = λ a b r h l. z-is a b h l;
  less = λ a b r h l. turned _ _ (n-is-v a b h l);
  at_most = λ a b r h l. either _ _ _ (z-n-v a b h l);
  lower = λ a b r. not-under a b;
  same_or_lower = λ a b r h l. other _ _ _ (c-z a b h l);
}
