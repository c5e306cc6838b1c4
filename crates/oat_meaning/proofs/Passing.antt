-- The locals of a function that is called.
use Rattle.std.proofs.Common.{◌≡◌, ◌+◌, ◌<◌, ◌⊎◌, ℕ, List, [], ◌∷◌, ◌++◌, length, get_or, set, map, take, replicate, sym, ap, ◌∙◌, inl, inr, arith, get_or-set_same, get_or-set_other}
use Rattle.std.proofs.Math.Seq.{get_or-append_seam}
use Rattle.std.proofs.lemmas.{Bool.cases_lt, Bool.cases_order, List.get_or-replicate, List.get_or_append_left, List.get_or_past, List.length-append, List.length-map, List.length-replicate}
use Rattle.std.proofs.lemmas.{List.length-take-le, List.map_more}

-- a value at each place, read with that value as default
pub all_alike : (n a i : ℕ) → get_or (replicate n a) i a ≡ a
all_alike n a i = elim (cases_lt i n) [
  | inl l ↦ get_or-replicate n i a a l
  | inr l ↦ get_or_past (replicate n a) i a (let e = length-replicate n a in omega (arith, e))
]

-- one more argument is passed
pub passed : (f : ℕ → ℕ) (args locals : List ℕ) (i : ℕ) → i < length args → i < length locals
    → ((x : ℕ) → get_or locals x 0 ≡ get_or (map f (take i args)) x 0) → (x : ℕ) → get_or (set locals i (f (get_or args i 0))) x 0 ≡ get_or (map f (take (i + 1) args)) x 0
passed f args locals i l k so_far x = by (cases_order x i) where
  value : ℕ
  value = f (get_or args i 0)

  front : List ℕ
  front = map f (take i args)

  count : length front ≡ i
  count = length-map (take i args) f ∙ length-take-le i args (omega arith)

  more : map f (take (i + 1) args) ≡ front ++ value ∷ []
  more = map_more f args i 0 l

  by : (x ≡ i) ⊎ ((x < i) ⊎ (i < x)) → get_or (set locals i value) x 0 ≡ get_or (map f (take (i + 1) args)) x 0
  by (inl at) =
      ap (λ n. get_or (set locals i value) n 0) at ∙ get_or-set_same locals i value 0 k
      ∙ sym (ap (λ xs. get_or xs x 0) more ∙ ap (λ n. get_or (front ++ value ∷ []) n 0) (at ∙ sym count) ∙ get_or-append_seam front value [] 0)
  by (inr (inl low)) =
      get_or-set_other locals i x value 0 (omega arith) ∙ so_far x
      ∙ sym (ap (λ xs. get_or xs x 0) more ∙ get_or_append_left front (value ∷ []) 0 x (let e = count in omega (arith, e)))
  by (inr (inr high)) =
      let short : length (front ++ value ∷ []) ≡ length front + 1 = length-append front (value ∷ []) in
      let e = count in
      get_or-set_other locals i x value 0 (omega arith) ∙ so_far x ∙ get_or_past front x 0 (omega (arith, e))
      ∙ sym (ap (λ xs. get_or xs x 0) more ∙ get_or_past (front ++ value ∷ []) x 0 (omega (arith, e, short)))
