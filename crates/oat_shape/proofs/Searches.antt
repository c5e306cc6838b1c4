-- Binary search in numbers that rise strictly.
use Rattle.std.proofs.Common.{◌≡◌, ℕ, ◌<◌, ◌≤◌, Bool, true, false, List, [], ◌∷◌, length, get_or, sym, ◌∙◌, subst, inl, inr, arith}
use Rattle.std.specs.{Prelude.not, Prelude.IsTrue, Prelude.◌↔◌, Prelude.nat_le, Prelude.Contains, Prelude.Result, Prelude.Ok, Prelude.Err, Prelude.is_ok, Prelude.MatchResult}
use Rattle.std.specs.{List.Sorted.IsStrictlyIncreasing, List.Sorted.IsNonDecreasing, List.Sorted.IsPartitionPoint}
use Rattle.std.proofs.Math.Dec.{ltb}
use Rattle.std.proofs.lemmas.{Bool.cases_lt, Bool.false≢true, Bool.lt-leb, Bool.le-leb, Bool.leb-true, Bool.leb-false, Bool.ltb-true, Bool.ltb-false, Bool.both_ways, Bool.not-true}
use Rattle.std.proofs.lemmas.{Bool.not_from_false, Bool.false_from_ne_true, List.get_or_default, List.Elements.Contains-get_or, List.Sums.position_or_len_is, List.Sums.fails_before_first}
use Rattle.std.proofs.lemmas.{List.Sums.passes_at_first, List.Sums.prefix_len-le-length, Map.Keys.non_decreasing_from_sorted, Map.Keys.sorted_from_strictly_increasing}
use Rattle.oat_shape.specs.Parts.{count_below, LiesInFunction}

pub rises_far : (xs : List ℕ) → IsStrictlyIncreasing xs → IsNonDecreasing xs
rises_far xs rises = non_decreasing_from_sorted xs (sorted_from_strictly_increasing xs rises)

pub rises_zero : (xs : List ℕ) → IsStrictlyIncreasing xs → (i j : ℕ) → i ≤ j → j < length xs → get_or xs i 0 ≤ get_or xs j 0
rises_zero xs rises i j below within = rises_far xs rises i j 0 below within

-- what a search that ends in `Ok` or `Err` says
pub found_iff : (xs : List ℕ) (x : ℕ) (r : Result ℕ ℕ) (ok : Bool) → ok ≡ is_ok r
    → MatchResult r (λ i. (i < length xs) × (get_or xs i 0 ≡ x))
    (λ i. (i ≤ length xs) × ((k : ℕ) → k < i → get_or xs k 0 < x) × ((k : ℕ) → i ≤ k → k < length xs → x < get_or xs k 0))
    → IsTrue ok ↔ Contains xs x
found_iff xs x (Ok i) ok said found =
    (λ yes. subst (Contains xs) found.1 (Contains-get_or xs i 0 found.0), λ has. said)
found_iff xs x (Err i) ok said gap = (
  λ yes. absurd (false≢true (sym said ∙ yes)),
  λ has.
      let read : get_or xs has.0 0 ≡ x = get_or_default xs has.0 0 x has.1 ∙ has.2 in
      absurd (elim (cases_lt has.0 i) as (λ _. ⊥) [
        | inl less ↦ let low = gap.1 has.0 less in omega arith
        | inr past ↦ let high = gap.2 has.0 past has.1 in omega (arith, high)
      ]),
)

-- a partition point is how many are below
pub point_is_count : (xs : List ℕ) (place i : ℕ) → i ≤ length xs
    → IsPartitionPoint (λ y. ltb y place ≡ true) (λ y. ltb y place ≡ false) xs i → i ≡ count_below xs place
point_is_count xs place i many parts =
    sym (position_or_len_is (λ other. nat_le place other) xs i 0 many
    (λ k below. lt-leb place (get_or xs k 0) (ltb-true (get_or xs k 0) place (parts.0 k 0 (omega arith) below)))
    (λ within. le-leb place (get_or xs i 0) (ltb-false (get_or xs i 0) place (parts.1 i 0 (omega arith) within))))

pub before_count : (xs : List ℕ) (place k : ℕ) → k < count_below xs place → get_or xs k 0 < place
before_count xs place k below = leb-false place (get_or xs k 0) (fails_before_first (λ other. nat_le place other) xs k 0 below)

pub at_count : (xs : List ℕ) (place : ℕ) → count_below xs place < length xs → place ≤ get_or xs (count_below xs place) 0
at_count xs place within = leb-true place (get_or xs (count_below xs place) 0) (passes_at_first (λ other. nat_le place other) xs 0 within)

-- an item below the place is among those that are counted
pub is_counted : (xs : List ℕ) (place k : ℕ) → IsStrictlyIncreasing xs → k < length xs → get_or xs k 0 < place → k < count_below xs place
is_counted xs place k rises within low =
    elim (cases_lt k (count_below xs place)) [
      | inl less ↦ less
      | inr past ↦
          let high = at_count xs place (omega arith) in
          let far = rises_zero xs rises (count_below xs place) k past within in
          absurd (omega arith)
    ]

pub count_within : (xs : List ℕ) (place : ℕ) → count_below xs place ≤ length xs
count_within xs place = prefix_len-le-length (λ other. not (nat_le place other)) xs

pub one_below : (xs : List ℕ) (place : ℕ) → 0 < count_below xs place → (entry : ℕ) × Contains xs entry × (entry < place)
one_below [] place some = absurd (omega arith)
one_below (x ∷ xs) place some = (x, Contains-get_or (x ∷ xs) 0 0 (omega arith), before_count (x ∷ xs) place 0 some)

pub some_counted : (xs : List ℕ) (place : ℕ) → IsStrictlyIncreasing xs → (entry : ℕ) × Contains xs entry × (entry < place) → 0 < count_below xs place
some_counted xs place rises (entry, has, low) =
    let read : get_or xs has.0 0 ≡ entry = get_or_default xs has.0 0 entry has.1 ∙ has.2 in
    let counted = is_counted xs place has.0 rises has.1 (omega arith) in
    omega arith

pub lies_then : (xs : List ℕ) (place n : ℕ) (one : Bool) → IsStrictlyIncreasing xs → n ≡ count_below xs place → 0 < n
    → (IsTrue one ↔ Contains xs place) → IsTrue (not one) ↔ LiesInFunction xs place
lies_then xs place n one rises count some found = (
  λ yes. record {
    above = one_below xs place (omega arith);
    apart = λ has. both_ways one (not-true one yes) (found.1 has);
  },
  λ there. not_from_false one (false_from_ne_true one (λ yes. there.apart (found.0 yes))),
)

pub lies_else : (xs : List ℕ) (place n : ℕ) → IsStrictlyIncreasing xs → n ≡ count_below xs place → n ≤ 0
    → IsTrue (ltb 0 n) ↔ LiesInFunction xs place
lies_else xs place n rises count none = (
  λ yes. let some = ltb-true 0 n yes in absurd (omega arith),
  λ there. let some = some_counted xs place rises there.above in absurd (omega arith),
)
