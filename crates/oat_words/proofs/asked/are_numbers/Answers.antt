use Rattle.std.proofs.Common.{◌≡◌, ◌<◌, ◌+◌, ◌∙◌, ℕ, List, [], Option, None, Some, true, false, map, length, get_or, inl, inr, sym, ap, subst, arith}
use Rattle.std.specs.{Prelude.MatchOption, Option.is_some, String.string_bytes, Str.Parse.digits_value}
use Rattle.std.proofs.Math.ListN.{get_or-map}
use Rattle.std.proofs.lemmas.{Bool.cases_lt, List.get_or_default, List.length-map}
use Rattle.oat_words.specs.Commands.{IsNumber}
use Rattle.oat_words.proofs.asked.are_numbers.Goals as goal

is_number : (bound : ℕ) (word : List ℕ) (found : Option ℕ)
    → MatchOption found (¬ IsNumber bound word) (λ number. IsNumber bound word × (number ≡ digits_value 10 word)) → is_some found ≡ true → IsNumber bound word
is_number bound word None none some = absurd (let e : false ≡ true = some in cc)
is_number bound word (Some number) both some = both.0

one_more : (bounds : List ℕ) (words : List (List ℕ)) (k : ℕ) → ((j : ℕ) → j < k → IsNumber (get_or bounds j 0) (get_or words j []))
    → IsNumber (get_or bounds k 0) (get_or words k []) → (j : ℕ) → j < k + 1 → IsNumber (get_or bounds j 0) (get_or words j [])
one_more bounds words k below at j within = elim (cases_lt j k) [
  | inl before ↦ below j before
  | inr not_before ↦
      let same : k ≡ j = omega (arith, within, not_before) in
      subst (λ (i : ℕ). IsNumber (get_or bounds i 0) (get_or words i [])) same at
]

pub loop-k-preserved : goal.loop-k-preserved
loop-k-preserved c =
    let words = c.args.words.now in
    let within : c.loop-k.k < length words = omega (arith, c.loop-k-test.true, c.requires) in
    let there : c.loop-k.k < length (map string_bytes words) = rw (length-map words string_bytes) within in
    let word = c.as_str.ensures.value ∙ (ap string_bytes c.index-words-k.is ∙ (sym (get_or-map string_bytes words c.loop-k.k c.index-words-k.result)
    ∙ get_or_default (map string_bytes words) c.loop-k.k (string_bytes c.index-words-k.result) [] there)) in
    one_more c.args.bounds.now (map string_bytes words) c.loop-k.k c.loop-k.invariant
    (subst (IsNumber (get_or c.args.bounds.now c.loop-k.k 0)) word (is_number _ _ c.number_in.result c.number_in.ensures c.if-is_none.ensures))
