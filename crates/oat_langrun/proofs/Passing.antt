-- The locals of a function that is called, and words that are put.
use Rattle.std.proofs.Common.{◌≡◌, ◌+◌, ◌<◌, ◌⊎◌, ℕ, List, [], ◌∷◌, ◌++◌, length, get_or, set, replicate, sym, ap, ◌∙◌, inl, inr, arith, get_or-set_same, get_or-set_other}
use Rattle.std.proofs.Math.Seq.{get_or-append_seam}
use Rattle.std.proofs.lemmas.Bool.{cases_lt, cases_order}
use Rattle.std.proofs.lemmas.List.{get_or-replicate, get_or_append_left, get_or_past, length-append, length-replicate}

-- a value at each place, read with that value as default
pub all_alike : (n a i : ℕ) → get_or (replicate n a) i a ≡ a
all_alike n a i = elim (cases_lt i n) [
  | inl l ↦ get_or-replicate n i a a l
  | inr l ↦ get_or_past (replicate n a) i a (let e = length-replicate n a in omega (arith, e))
]

-- one more argument is passed
pub passed : (front locals : List ℕ) (i value : ℕ) → length front ≡ i → i < length locals
    → ((x : ℕ) → get_or locals x 0 ≡ get_or front x 0) → (x : ℕ) → get_or (set locals i value) x 0 ≡ get_or (front ++ value ∷ []) x 0
passed front locals i value count k so_far x = by (cases_order x i) where
  by : (x ≡ i) ⊎ ((x < i) ⊎ (i < x)) → get_or (set locals i value) x 0 ≡ get_or (front ++ value ∷ []) x 0
  by (inl at) =
      ap (λ n. get_or (set locals i value) n 0) at ∙ get_or-set_same locals i value 0 k
      ∙ sym (ap (λ n. get_or (front ++ value ∷ []) n 0) (at ∙ sym count) ∙ get_or-append_seam front value [] 0)
  by (inr (inl low)) = get_or-set_other locals i x value 0 (omega arith) ∙ so_far x ∙ sym (get_or_append_left front (value ∷ []) 0 x (omega (arith, count)))
  by (inr (inr high)) =
      let short : length (front ++ value ∷ []) ≡ length front + 1 = length-append front (value ∷ []) in
      get_or-set_other locals i x value 0 (omega arith) ∙ so_far x ∙ get_or_past front x 0 (omega (arith, count))
      ∙ sym (get_or_past (front ++ value ∷ []) x 0 (omega (arith, count, short)))

-- where a list has an element, it is there
pub list_there : (words : List (List ℕ)) (g i : ℕ) → i < length (get_or words g []) → g < length words
list_there words g i l = elim (cases_lt g (length words)) [
  | inl k ↦ k
  | inr past ↦ absurd (let none = ap (λ (xs : List ℕ). length xs) (get_or_past words g [] past) in omega (arith, none, l))
]
