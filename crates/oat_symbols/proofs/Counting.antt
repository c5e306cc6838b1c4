-- Counts of what passes a test, and the place of an address.
use Rattle.std.proofs.Common.{◌≡◌, ℕ, ◌+◌, ◌<◌, ◌≤◌, List, [], ◌∷◌, ◌++◌, refl, sym, ap, subst, Bool, true, false, cond, ◌&&◌, Option, Some, None, arith, inl, inr, max}
use Rattle.std.specs.{Prelude.Contains, Prelude.nat_le, Prelude.count_by, Prelude.◌⊎◌, List.filter, List.fold}
use Rattle.std.proofs.lemmas.{Bool.ne_eqb, Bool.leb-true, Bool.cases_lt, Bool.true≢false, List.Sums.sum_by-cons, List.Sums.sum_by-append}
use Rattle.oat_parts.specs.{Map, places, later_of, place_of, is_same_place}
use Rattle.oat_parts.proofs.Lists.{first_in, later_in}
use Rattle.oat_symbols.proofs.Finding.{of_filter}

pub count_more : {A : Type 0} (test : A → Bool) (x : A) (xs : List A) → count_by test (x ∷ xs) ≡ cond (test x) 1 0 + count_by test xs
count_more test x xs = sum_by-cons (λ y. cond (test y) 1 0) x xs

pub count_both : {A : Type 0} (test : A → Bool) (xs ys : List A) → count_by test (xs ++ ys) ≡ count_by test xs + count_by test ys
count_both test xs ys = sum_by-append (λ y. cond (test y) 1 0) xs ys

abbrev one_if : Bool → ℕ
one_if b = cond b 1 0

pub count_same : {A : Type 0} (test other : A → Bool) (xs : List A) → ((x : A) → Contains xs x → test x ≡ other x) → count_by test xs ≡ count_by other xs
count_same test other [] same = refl
count_same test other (x ∷ xs) same =
    let here : one_if (test x) ≡ one_if (other x) = ap one_if (same x (first_in x xs)) in
    omega (arith, count_more test x xs, count_more other x xs, count_same test other xs (λ y has. same y (later_in x xs y has)))

pub count_none : {A : Type 0} (test : A → Bool) (xs : List A) → ((x : A) → Contains xs x → test x ≡ false) → count_by test xs ≡ 0
count_none test [] none = refl
count_none test (x ∷ xs) none =
    let here : one_if (test x) ≡ 0 = ap one_if (none x (first_in x xs)) in
    omega (arith, count_more test x xs, count_none test xs (λ y has. none y (later_in x xs y has)))

-- ---- the place of an address is at or below it

later_in_list : (xs : List ℕ) (o : Option ℕ) (q : ℕ) → fold later_of o xs ≡ Some q → Contains xs q ⊎ (o ≡ Some q)
later_in_list [] o q is = inr is
later_in_list (x ∷ xs) None q is = elim (later_in_list xs (Some x) q is) [
  | inl has ↦ inl (later_in x xs q has)
  | inr same ↦ let e : x ≡ q = cc in inl (subst (Contains (x ∷ xs)) e (first_in x xs))
]
later_in_list (x ∷ xs) (Some p) q is = elim (later_in_list xs (Some (max p x)) q is) [
  | inl has ↦ inl (later_in x xs q has)
  | inr same ↦
      let e : max p x ≡ q = cc in
      elim (cases_lt p x) [
        | inl less ↦ let here : x ≡ q = omega arith in inl (subst (Contains (x ∷ xs)) here (first_in x xs))
        | inr most ↦ let here : p ≡ q = omega arith in inr (ap Some here)
      ]
]

pub below : (m : Map) (a q : ℕ) → place_of m a ≡ Some q → q ≤ a
below m a q is = elim (later_in_list (filter (λ p. nat_le p a) (places m)) None q is) [
  | inl has ↦ leb-true q a (of_filter (λ p. nat_le p a) (places m) q has).1
  | inr none ↦ absurd cc
]

pub other_place : (o : Option ℕ) (p : ℕ) → ((q : ℕ) → o ≡ Some q → q < p) → is_same_place o (Some p) ≡ false
other_place None p low = refl
other_place (Some q) p low = ne_eqb q p (λ e. let less = low q refl in absurd (omega arith))

-- ---- three tests

pub three_false_first : (x y z : Bool) → x ≡ false → (x && y && z) ≡ false
three_false_first true y z e = absurd (true≢false e)
three_false_first false y z e = refl

pub three_false_last : (x y z : Bool) → z ≡ false → (x && y && z) ≡ false
three_false_last true true z e = e
three_false_last true false z e = refl
three_false_last false y z e = refl

pub three_false_middle : (x y z : Bool) → y ≡ false → (x && y && z) ≡ false
three_false_middle true true z e = absurd (true≢false e)
three_false_middle true false z e = refl
three_false_middle false y z e = refl

pub three_first : (x y z : Bool) → y ≡ true → z ≡ true → (x && y && z) ≡ x
three_first true true true e f = refl
three_first true true false e f = absurd (true≢false (sym f))
three_first true false z e f = absurd (true≢false (sym e))
three_first false y z e f = refl
