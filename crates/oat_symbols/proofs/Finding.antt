-- What is found in a list first or last, and what passes a test in it; and the greatest of some places.
use Rattle.std.proofs.Common.{◌≡◌, ℕ, zero, suc, ◌<◌, ◌≤◌, List, [], ◌∷◌, refl, sym, ap, ◌∙◌, subst, Bool, true, false, cond, Option, Some, None, arith, inl, inr, max}
use Rattle.std.specs.{Prelude.slice_get, Prelude.Contains, Prelude.nat_lt, Prelude.find, Prelude.reverse, Prelude.◌==◌, Prelude.◌⊎◌, List.filter, List.fold, Option.option_or}
use Rattle.std.proofs.lemmas.{Bool.eq-eqb, Bool.ne_eqb, Bool.lt-ltb, Bool.le-ltb, Bool.true≢false, List.reverse-append, List.Folds.find-append}
use Rattle.oat_parts.specs.{later_of, Symbols.Rises}
use Rattle.oat_parts.proofs.Lists.{not_in_none, first_in, later_in, cons_cases, get_in, in_get}

pub find_step : {A : Type 0} (test : A → Bool) (x : A) (xs : List A) (b : Bool) → test x ≡ b → find test (x ∷ xs) ≡ cond b (Some x) (find test xs)
find_step test x xs b e = ap (λ (t : Bool). cond t (Some x) (find test xs)) e

-- where a measure rises, an element is found by it
pub find_risen : {A : Type 0} (g : A → ℕ) (xs : List A) (k : ℕ) (x : A) (n : ℕ) → Rises g xs → slice_get xs k ≡ Some x → g x ≡ n → find (λ y. g y == n) xs ≡ Some x
find_risen g [] k x n up at e = absurd cc
find_risen g (y ∷ ys) zero x n up at e =
    let same : y ≡ x = cc in
    find_step (λ z. g z == n) y ys true (eq-eqb (g y) n (ap g same ∙ e)) ∙ ap Some same
find_risen g (y ∷ ys) (suc k) x n up at e =
    let less : g y < g x = up.0 x (get_in ys k x at) in
    find_step (λ z. g z == n) y ys false (ne_eqb (g y) n (λ same. absurd (omega arith))) ∙ find_risen g ys k x n up.1 at e

pub find_none : {A : Type 0} (g : A → ℕ) (xs : List A) (n : ℕ) → ((x : A) → Contains xs x → g x ≡ n → ⊥) → find (λ y. g y == n) xs ≡ None
find_none g [] n out = refl
find_none g (y ∷ ys) n out =
    find_step (λ z. g z == n) y ys false (ne_eqb (g y) n (out y (first_in y ys))) ∙ find_none g ys n (λ x has. out x (later_in y ys x has))

-- the last that is below
none_below : {A : Type 0} (g : A → ℕ) (zs : List A) (n : ℕ) → ((z : A) → Contains zs z → n ≤ g z) → find (λ z. nat_lt (g z) n) (reverse zs) ≡ None
none_below g [] n high = refl
none_below g (z ∷ zs) n high =
    ap (find (λ y. nat_lt (g y) n)) (reverse-append (z ∷ []) zs)
    ∙ find-append (λ y. nat_lt (g y) n) (reverse zs) (z ∷ [])
    ∙ ap (λ o. option_or o (find (λ y. nat_lt (g y) n) (z ∷ []))) (none_below g zs n (λ y has. high y (later_in z zs y has)))
    ∙ find_step (λ y. nat_lt (g y) n) z [] false (le-ltb (g z) n (high z (first_in z zs)))

pub find_last : {A : Type 0} (g : A → ℕ) (xs : List A) (k : ℕ) (x : A) (n : ℕ) → slice_get xs k ≡ Some x → g x < n → ((j : ℕ) (y : A) → k < j → slice_get xs j ≡ Some y → n ≤ g y)
    → find (λ y. nat_lt (g y) n) (reverse xs) ≡ Some x
find_last g [] k x n at below above = absurd cc
find_last g (y ∷ ys) zero x n at below above =
    let same : y ≡ x = cc in
    let less : g y < n = subst (λ z. g z < n) (sym same) below in
    ap (find (λ z. nat_lt (g z) n)) (reverse-append (y ∷ []) ys)
    ∙ find-append (λ z. nat_lt (g z) n) (reverse ys) (y ∷ [])
    ∙ ap (λ o. option_or o (find (λ z. nat_lt (g z) n) (y ∷ []))) (none_below g ys n (λ z has. let r = in_get ys z has in above (suc r.0) z (omega arith) r.1))
    ∙ find_step (λ z. nat_lt (g z) n) y [] true (lt-ltb (g y) n less) ∙ ap Some same
find_last g (y ∷ ys) (suc k) x n at below above =
    ap (find (λ z. nat_lt (g z) n)) (reverse-append (y ∷ []) ys)
    ∙ find-append (λ z. nat_lt (g z) n) (reverse ys) (y ∷ [])
    ∙ ap (λ o. option_or o (find (λ z. nat_lt (g z) n) (y ∷ []))) (find_last g ys k x n at below (λ j z less has. above (suc j) z (omega arith) has))

-- ---- the greatest

abbrev pub IsAtMost : Option ℕ → ℕ → Type 0
IsAtMost None p = Unit {0}
IsAtMost (Some q) p = q ≤ p

pub greatest : (xs : List ℕ) (o : Option ℕ) (p : ℕ) → ((q : ℕ) → Contains xs q → q ≤ p) → IsAtMost o p → Contains xs p ⊎ (o ≡ Some p) → fold later_of o xs ≡ Some p
greatest [] o p low most (inl has) = absurd (not_in_none p has)
greatest [] o p low most (inr is) = is
greatest (x ∷ xs) None p low most (inr is) = absurd cc
greatest (x ∷ xs) None p low most (inl has) =
    let here = low x (first_in x xs) in
    greatest xs (Some x) p (λ q h. low q (later_in x xs q h)) here (elim (cons_cases x xs p has) [
      | inl same ↦ inr (ap Some same)
      | inr later ↦ inl later
    ])
greatest (x ∷ xs) (Some q) p low most (inr is) =
    let here = low x (first_in x xs) in
    let same : q ≡ p = cc in
    let top : max q x ≡ p = omega arith in
    greatest xs (Some (max q x)) p (λ r h. low r (later_in x xs r h)) (omega arith) (inr (ap Some top))
greatest (x ∷ xs) (Some q) p low most (inl has) =
    let here = low x (first_in x xs) in
    greatest xs (Some (max q x)) p (λ r h. low r (later_in x xs r h)) (omega arith) (elim (cons_cases x xs p has) [
      | inl same ↦ inr (ap Some (let top : max q x ≡ p = omega arith in top))
      | inr later ↦ inl later
    ])

of_filter_by : {A : Type 0} (test : A → Bool) (x : A) (xs : List A) (b : Bool) (y : A) → test x ≡ b → Contains (cond b (x ∷ filter test xs) (filter test xs)) y
    → (Contains (filter test xs) y → Contains xs y × (test y ≡ true)) → Contains (x ∷ xs) y × (test y ≡ true)
of_filter_by test x xs true y e has rest =
    elim (cons_cases x (filter test xs) y has) [
      | inl same ↦ (subst (Contains (x ∷ xs)) same (first_in x xs), sym (ap test same) ∙ e)
      | inr later ↦ let r = rest later in (later_in x xs y r.0, r.1)
    ]
of_filter_by test x xs false y e has rest = let r = rest has in (later_in x xs y r.0, r.1)

pub of_filter : {A : Type 0} (test : A → Bool) (xs : List A) (y : A) → Contains (filter test xs) y → Contains xs y × (test y ≡ true)
of_filter test [] y has = absurd (not_in_none y has)
of_filter test (x ∷ xs) y has = of_filter_by test x xs (test x) y refl has (λ h. of_filter test xs y h)

in_filter_by : {A : Type 0} (test : A → Bool) (x : A) (xs : List A) (b : Bool) (y : A) → test x ≡ b → test y ≡ true → (x ≡ y) ⊎ Contains (filter test xs) y
    → Contains (cond b (x ∷ filter test xs) (filter test xs)) y
in_filter_by test x xs true y e passes (inl same) = subst (Contains (x ∷ filter test xs)) same (first_in x (filter test xs))
in_filter_by test x xs true y e passes (inr later) = later_in x (filter test xs) y later
in_filter_by test x xs false y e passes (inl same) = absurd (true≢false (sym passes ∙ sym (ap test same) ∙ e))
in_filter_by test x xs false y e passes (inr later) = later

pub in_filter : {A : Type 0} (test : A → Bool) (xs : List A) (y : A) → Contains xs y → test y ≡ true → Contains (filter test xs) y
in_filter test [] y has passes = absurd (not_in_none y has)
in_filter test (x ∷ xs) y has passes =
    in_filter_by test x xs (test x) y refl passes (elim (cons_cases x xs y has) [
      | inl same ↦ inl same
      | inr later ↦ inr (in_filter test xs y later passes)
    ])
