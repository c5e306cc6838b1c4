-- Integers that are read with a largest one in place of those above it.
use Rattle.std.proofs.Common.{◌≡◌, ℕ, zero, suc, ◌^◌, ◌<◌, true, false, List, drop, Option, Some, None, Result, Ok, ℤ, pos, neg_ℤ, refl, sym, ap, ◌∙◌, inl, inr, arith}
use Rattle.std.specs.{Prelude.option_map, Prelude.Err, Option.ok_or, Str.Parse.starts_with_minus}
use Rattle.std.proofs.lemmas.Bool.{cases_Bool, cases_lt, le-ltb}
use Rattle.oat_lines.specs.{Decimal.numeral_of, Decimal.capped, Reading.◌>>=◌, Integer.integer_of, Integer.is_i64, Integer.within_i64, Integer.read_as_integer}
use Rattle.oat_lines.specs.{declared.integer.IntegerFault.IntegerFault, declared.integer.IntegerFault.TheVariants.Misspelled, declared.integer.IntegerFault.TheVariants.OutOfRange}
use Rattle.oat_lines.proofs.Steps.{ok_is, bind_ok, or_ok}

abbrev done : ℤ → Result ℤ IntegerFault
done x = Ok x

below_all : (z : ℕ) → 2 ^ 63 < z → is_i64 (neg_ℤ (pos z)) ≡ false
below_all zero far = absurd (omega arith)
below_all (suc k) far = le-ltb k (2 ^ 63) (omega arith)

capped_positive : (m : ℕ) → within_i64 (pos (capped m)) ≡ within_i64 (pos m)
capped_positive m =
    elim (cases_lt m (2 ^ 63)) [
      | inl near ↦ let same : capped m ≡ m = omega arith in rw same refl
      | inr far ↦ rw (le-ltb m (2 ^ 63) far, le-ltb (capped m) (2 ^ 63) (omega arith)) refl
    ]

capped_negative : (m : ℕ) → within_i64 (neg_ℤ (pos (capped m))) ≡ within_i64 (neg_ℤ (pos m))
capped_negative m =
    elim (cases_lt (2 ^ 63) m) [
      | inl far ↦ rw (below_all m far, below_all (capped m) (omega arith)) refl
      | inr near ↦ let same : capped m ≡ m = omega arith in rw same refl
    ]

positive_value : (size : ℕ) (o : Option ℕ) → Some size ≡ option_map capped o → within_i64 (pos size) ≡ (ok_or (option_map (λ m. pos m) o) Misspelled >>= λ z. within_i64 z)
positive_value size None e = absurd cc
positive_value size (Some m) e = let same : size ≡ capped m = cc in rw same (capped_positive m)

negative_value : (size : ℕ) (o : Option ℕ) → Some size ≡ option_map capped o → within_i64 (neg_ℤ (pos size)) ≡ (ok_or (option_map (λ m. neg_ℤ (pos m)) o) Misspelled >>= λ z. within_i64 z)
negative_value size None e = absurd cc
negative_value size (Some m) e = let same : size ≡ capped m = cc in rw same (capped_negative m)

pub negative_read : (size : ℕ) (word : List ℕ) → starts_with_minus word ≡ true → Some size ≡ option_map capped (numeral_of (drop 1 word)) → within_i64 (neg_ℤ (pos size)) ≡ read_as_integer word
unfolding read_as_integer
negative_read size word minus e = rw minus (negative_value size (numeral_of (drop 1 word)) e)

pub positive_read : (size : ℕ) (word : List ℕ) → starts_with_minus word ≡ false → Some size ≡ option_map capped (numeral_of word) → within_i64 (pos size) ≡ read_as_integer word
unfolding read_as_integer
positive_read size word minus e = rw minus (positive_value size (numeral_of word) e)

no_value : (f : ℕ → ℤ) (o : Option ℕ) → None ≡ option_map capped o → Err Misspelled ≡ (ok_or (option_map f o) Misspelled >>= λ z. within_i64 z)
no_value f None e = refl
no_value f (Some m) e = absurd cc

pub negative_none : (word : List ℕ) → starts_with_minus word ≡ true → None ≡ option_map capped (numeral_of (drop 1 word)) → Err Misspelled ≡ read_as_integer word
unfolding read_as_integer
negative_none word minus e = rw minus (no_value (λ m. neg_ℤ (pos m)) (numeral_of (drop 1 word)) e)

pub positive_none : (word : List ℕ) → starts_with_minus word ≡ false → None ≡ option_map capped (numeral_of word) → Err Misspelled ≡ read_as_integer word
unfolding read_as_integer
positive_none word minus e = rw minus (no_value (λ m. pos m) (numeral_of word) e)

-- ---- what is read is spelled so and fits, and what is spelled so and fits is read

fitting : (z x : ℤ) → within_i64 z ≡ Ok x → (z ≡ x) × (is_i64 x ≡ true)
fitting z x e =
    elim (cases_Bool (is_i64 z)) [
      | inl fits ↦ let same : z ≡ x = ok_is z x (rw fits at e) in (same, sym (ap is_i64 same) ∙ fits)
      | inr not ↦ absurd (let bad : Err OutOfRange ≡ done x = rw not at e in cc)
    ]

pub integer_takes : (word : List ℕ) (x : ℤ) → read_as_integer word ≡ Ok x → (integer_of word ≡ Some x) × (is_i64 x ≡ true)
unfolding read_as_integer
integer_takes word x e =
    let a = bind_ok (ok_or (integer_of word) Misspelled) (λ z. within_i64 z) x e in
    let r = fitting a.0 x a.2 in
    (or_ok (integer_of word) Misspelled a.0 a.1 ∙ ap (λ z. Some z) r.0, r.1)

pub integer_again : (word : List ℕ) (x : ℤ) → integer_of word ≡ Some x → is_i64 x ≡ true → read_as_integer word ≡ Ok x
unfolding read_as_integer
integer_again word x spelled fits = rw (spelled, fits) refl
