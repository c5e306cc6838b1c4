-- What is found among the keys of a table is found among the items of its list.
use Rattle.std.proofs.Common.{◌≡◌, ℕ, suc, ◌+◌, Bool, true, false, cond, ◌&&◌, List, [], ◌∷◌, length, map, get_or, slice_get, Option, Some, None, refl, sym, ap, subst, ◌∙◌, inl, inr, arith}
use Rattle.std.specs.{Prelude.position, Prelude.find, Prelude.nat_lt, Prelude.option_map, List.list_any, List.position_or_len, List.IsDistinct, List.AllByRecursion, Str.bytes_eq}
use Rattle.std.proofs.lemmas.{Bool.cases_Bool, Bool.ltb-true, Bool.ltb-false, Bool.lt-ltb, Bool.le-ltb, Map.Keys.IsDistinct-head, Map.Keys.IsDistinct-tail, Slice.Eq.bytes_eq-Decides}

-- the first place that passes, counted along the list
pub place : {X : Type 0} → (X → Bool) → List X → Option ℕ
place p [] = None
place p (x ∷ xs) = cond (p x) (Some 0) (option_map suc (place p xs))

later : (b : Bool) (m n : ℕ) → nat_lt m n ≡ b → Path (Option ℕ) (cond (nat_lt (1 + m) (suc n)) (Some (1 + m)) None) (option_map suc (cond b (Some m) None))
later true m n is = rw (lt-ltb (1 + m) (suc n) (let below = ltb-true m n is in omega (arith, below))) (let one : 1 + m ≡ suc m = omega arith in ap Some one)
later false m n is = rw (le-ltb (1 + m) (suc n) (let above = ltb-false m n is in omega (arith, above))) refl

pub place_is : {X : Type 0} (p : X → Bool) (xs : List X) → position p xs ≡ place p xs
unfolding place
place_is p [] = refl
place_is p (x ∷ xs) =
    elim (cases_Bool (p x)) [
      | inl passes ↦ rw passes (rw (lt-ltb 0 (suc (length xs)) (omega arith)) refl)
      | inr fails ↦
          let n = position_or_len p xs in
          rw fails (later (nat_lt n (length xs)) n (length xs) refl ∙ ap (option_map suc) (place_is p xs))
    ]

-- ---- items that pass

found_later : (o : Option ℕ) (i : ℕ) → option_map suc o ≡ Some i → (j : ℕ) × (o ≡ Some j) × (i ≡ suc j)
found_later None i e = absurd cc
found_later (Some j) i e = (j, refl, (let same : Path (Option ℕ) (Some (suc j)) (Some i) = e in cc))

none_later : (o : Option ℕ) → option_map suc o ≡ None → o ≡ None
none_later None e = refl
none_later (Some j) e = absurd cc

pub place_mapped : {X Y : Type 0} (p : Y → Bool) (f : X → Y) (xs : List X) → place p (map f xs) ≡ place (λ x. p (f x)) xs
unfolding place
place_mapped p f [] = refl
place_mapped p f (x ∷ xs) = ap (λ o. cond (p (f x)) (Some 0) (option_map suc o)) (place_mapped p f xs)

pub place_within : {X : Type 0} (p : X → Bool) (xs : List X) (i : ℕ) → place p xs ≡ Some i → (x : X) × (slice_get xs i ≡ Some x) × (p x ≡ true)
unfolding place
place_within p [] i e = absurd cc
place_within p (x ∷ xs) i e =
    elim (cases_Bool (p x)) [
      | inl passes ↦
          let first : Path (Option ℕ) (Some 0) (Some i) = rw passes at e in
          let zero_is : i ≡ 0 = (cc) in
          (x, ap (λ (n : ℕ). slice_get (x ∷ xs) n) zero_is, passes)
      | inr fails ↦
          let after : option_map suc (place p xs) ≡ Some i = rw fails at e in
          let l = found_later (place p xs) i after in
          let r = place_within p xs l.0 l.1 in
          (r.0, ap (λ (n : ℕ). slice_get (x ∷ xs) n) l.2 ∙ r.1, r.2)
    ]

pub nowhere : {X : Type 0} (p : X → Bool) (xs : List X) → place p xs ≡ None → list_any p xs ≡ false
unfolding place
nowhere p [] e = refl
nowhere p (x ∷ xs) e =
    elim (cases_Bool (p x)) [
      | inl passes ↦ absurd (let bad : Path (Option ℕ) (Some 0) None = rw passes at e in cc)
      | inr fails ↦ rw fails (nowhere p xs (none_later (place p xs) (rw fails at e)))
    ]

-- the item at the first place is the first that passes
pub find_place : {X : Type 0} (p : X → Bool) (xs : List X) (i : ℕ) (d : X) → place p xs ≡ Some i → find p xs ≡ Some (get_or xs i d)
unfolding place
find_place p [] i d e = absurd cc
find_place p (x ∷ xs) i d e =
    elim (cases_Bool (p x)) [
      | inl passes ↦
          let first : Path (Option ℕ) (Some 0) (Some i) = rw passes at e in
          let zero_is : i ≡ 0 = (cc) in
          rw (passes, zero_is) refl
      | inr fails ↦
          let l = found_later (place p xs) i (rw fails at e) in
          rw (fails, l.2) (find_place p xs l.0 d l.1)
    ]

pub find_nowhere : {X : Type 0} (p : X → Bool) (xs : List X) → place p xs ≡ None → find p xs ≡ None
unfolding place
find_nowhere p [] e = refl
find_nowhere p (x ∷ xs) e =
    elim (cases_Bool (p x)) [
      | inl passes ↦ absurd (let bad : Path (Option ℕ) (Some 0) None = rw passes at e in cc)
      | inr fails ↦ rw fails (find_nowhere p xs (none_later (place p xs) (rw fails at e)))
    ]

-- ---- items that pass a second test too

pub none_both : {X : Type 0} (p q : X → Bool) (xs : List X) → place p xs ≡ None → place (λ x. p x && q x) xs ≡ None
unfolding place
none_both p q [] e = refl
none_both p q (x ∷ xs) e =
    elim (cases_Bool (p x)) [
      | inl passes ↦ absurd (let bad : Path (Option ℕ) (Some 0) None = rw passes at e in cc)
      | inr fails ↦ rw fails (ap (option_map suc) (none_both p q xs (none_later (place p xs) (rw fails at e))))
    ]

pub first_both : {X : Type 0} (p q : X → Bool) (xs : List X) (i : ℕ) (x : X) → place p xs ≡ Some i → slice_get xs i ≡ Some x → q x ≡ true → place (λ x. p x && q x) xs ≡ Some i
unfolding place
first_both {X} p q [] i x e at is = absurd cc
first_both {X} p q (y ∷ xs) i x e at is =
    elim (cases_Bool (p y)) [
      | inl passes ↦
          let first : Path (Option ℕ) (Some 0) (Some i) = rw passes at e in
          let zero_is : i ≡ 0 = (cc) in
          let here : Path (Option X) (Some y) (Some x) = ap (λ (n : ℕ). slice_get (y ∷ xs) n) (sym zero_is) ∙ at in
          let same : y ≡ x = (cc) in
          rw (passes, same, is) first
      | inr fails ↦
          let l = found_later (place p xs) i (rw fails at e) in
          let there : slice_get xs l.0 ≡ Some x = ap (λ (n : ℕ). slice_get (y ∷ xs) n) (sym l.2) ∙ at in
          rw fails (ap (option_map suc) (first_both p q xs l.0 x l.1 there is) ∙ ap Some (sym l.2))
    ]

module _ {X : Type 0} (key : X → List ℕ) where
  no_more : (xs : List X) (k : List ℕ) → AllByRecursion (λ y. bytes_eq k y ≡ false) (map key xs) → place (λ x. bytes_eq k (key x)) xs ≡ None
  unfolding place
  no_more [] k all = refl
  no_more (x ∷ xs) k all = rw all.0 (ap (option_map suc) (no_more xs k all.1))

  -- keys that differ: the one item with this key fails the second test
  pub missed_both : (q : X → Bool) (xs : List X) (k : List ℕ) (i : ℕ) (x : X) → IsDistinct bytes_eq (map key xs) → place (λ x. bytes_eq k (key x)) xs ≡ Some i
      → slice_get xs i ≡ Some x → q x ≡ false → place (λ x. bytes_eq k (key x) && q x) xs ≡ None
  unfolding place
  missed_both q [] k i x apart e at is = refl
  missed_both q (y ∷ xs) k i x apart e at is =
      elim (cases_Bool (bytes_eq k (key y))) [
        | inl passes ↦
            let first : Path (Option ℕ) (Some 0) (Some i) = rw passes at e in
            let zero_is : i ≡ 0 = (cc) in
            let here : Path (Option X) (Some y) (Some x) = ap (λ (n : ℕ). slice_get (y ∷ xs) n) (sym zero_is) ∙ at in
            let same : y ≡ x = (cc) in
            let is_key : k ≡ key y = (bytes_eq-Decides k (key y)).0 passes in
            let rest = none_both (λ x. bytes_eq k (key x)) q xs (subst (λ (n : List ℕ). place (λ x. bytes_eq n (key x)) xs ≡ None) (sym is_key) (no_more xs (key y) (IsDistinct-head bytes_eq (key y) (map key xs) apart))) in
            rw (passes, same, is) (ap (option_map suc) rest)
        | inr fails ↦
            let l = found_later (place (λ x. bytes_eq k (key x)) xs) i (rw fails at e) in
            let there : slice_get xs l.0 ≡ Some x = ap (λ (n : ℕ). slice_get (y ∷ xs) n) (sym l.2) ∙ at in
            rw fails (ap (option_map suc) (missed_both q xs k l.0 x (IsDistinct-tail bytes_eq (key y) (map key xs) apart) l.1 there is))
      ]
