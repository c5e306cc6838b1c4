-- Lists: what they contain, distinct elements, and measures that rise.
use Rattle.std.proofs.Common.{◌≡◌, ℕ, zero, suc, ◌+◌, ◌<◌, ◌≤◌, List, [], ◌∷◌, ◌++◌, length, map, refl, sym, ap, ◌∙◌, subst, Some, arith, inl, inr, get_or}
use Rattle.std.specs.{Prelude.slice_get, Prelude.Contains, Prelude.◌⊎◌, List.AllByRecursion, List.flat_map}
use Rattle.std.proofs.lemmas.{List.Elements.Contains-append_left, List.Elements.Contains-append_right, List.Elements.Contains-append_cases, Bool.cases_lt, Option.slice_get_within}
use Rattle.std.proofs.lemmas.{Option.slice_get-get_or, Option.get_or_from_slice_get}
use Rattle.oat_parts.specs.Symbols.{AreDistinct, Rises, up_from}

pub not_in_none : {A : Type 0} (x : A) → Contains [] x → ⊥
not_in_none x has = absurd (omega (arith, has.1))

pub first_in : {A : Type 0} (x : A) (xs : List A) → Contains (x ∷ xs) x
first_in x xs = (0, omega arith, refl)

pub later_in : {A : Type 0} (y : A) (xs : List A) (x : A) → Contains xs x → Contains (y ∷ xs) x
later_in y xs x has = Contains-append_right (y ∷ []) xs x has

pub only_in : {A : Type 0} (y x : A) (k : ℕ) → k < 1 → get_or (y ∷ []) k x ≡ x → y ≡ x
only_in y x zero h e = e
only_in y x (suc k) h e = absurd (omega arith)

pub cons_cases : {A : Type 0} (y : A) (xs : List A) (x : A) → Contains (y ∷ xs) x → (y ≡ x) ⊎ Contains xs x
cons_cases y xs x has =
    elim (Contains-append_cases (y ∷ []) xs x has) [
      | inl here ↦ inl (only_in y x here.0 here.1 here.2)
      | inr later ↦ inr later
    ]

pub get_in : {A : Type 0} (xs : List A) (k : ℕ) (x : A) → slice_get xs k ≡ Some x → Contains xs x
get_in xs k x at = (k, slice_get_within xs k x at, get_or_from_slice_get xs k x x at)

pub in_get : {A : Type 0} (xs : List A) (x : A) → Contains xs x → (k : ℕ) × (slice_get xs k ≡ Some x)
in_get xs x has = (has.0, slice_get-get_or xs has.0 x has.1 ∙ ap Some has.2)

pub all_get : {A : Type 0} (P : A → Type 0) (xs : List A) (k : ℕ) (x : A) → AllByRecursion P xs → slice_get xs k ≡ Some x → P x
all_get P [] k x all at = absurd cc
all_get P (y ∷ ys) zero x all at = let e : y ≡ x = cc in subst P e all.0
all_get P (y ∷ ys) (suc k) x all at = all_get P ys k x all.1 at

pub all_in : {A : Type 0} (P : A → Type 0) (xs : List A) (x : A) → AllByRecursion P xs → Contains xs x → P x
all_in P xs x all has = let at = in_get xs x has in all_get P xs at.0 x all at.1

pub all_join : {A : Type 0} (P : A → Type 0) (xs ys : List A) → AllByRecursion P xs → AllByRecursion P ys → AllByRecursion P (xs ++ ys)
all_join P [] ys before behind = behind
all_join P (x ∷ xs) ys before behind = (before.0, all_join P xs ys before.1 behind)

pub in_map : {A B : Type 0} (f : A → B) (xs : List A) (x : A) → Contains xs x → Contains (map f xs) (f x)
in_map f [] x has = absurd (not_in_none x has)
in_map f (y ∷ ys) x has =
    elim (cons_cases y ys x has) [
      | inl e ↦ subst (λ z. Contains (f y ∷ map f ys) (f z)) e (first_in (f y) (map f ys))
      | inr later ↦ later_in (f y) (map f ys) (f x) (in_map f ys x later)
    ]

pub of_map : {A B : Type 0} (f : A → B) (xs : List A) (y : B) → Contains (map f xs) y → (x : A) × Contains xs x × (f x ≡ y)
of_map f [] y has = absurd (not_in_none y has)
of_map f (x ∷ xs) y has =
    elim (cons_cases (f x) (map f xs) y has) [
      | inl e ↦ (x, first_in x xs, e)
      | inr later ↦ let r = of_map f xs y later in (r.0, later_in x xs r.0 r.1, r.2)
    ]

pub in_flat_map : {A B : Type 0} (f : A → List B) (xs : List A) (k : ℕ) (x : A) (y : B) → slice_get xs k ≡ Some x → Contains (f x) y → Contains (flat_map f xs) y
in_flat_map f [] k x y at has = absurd cc
in_flat_map f (z ∷ zs) zero x y at has =
    let e : x ≡ z = cc in
    Contains-append_left (f z) (flat_map f zs) y (subst (λ w. Contains (f w) y) e has)
in_flat_map f (z ∷ zs) (suc k) x y at has = Contains-append_right (f z) (flat_map f zs) y (in_flat_map f zs k x y at has)

pub of_flat_map : {A B : Type 0} (f : A → List B) (xs : List A) (y : B) → Contains (flat_map f xs) y → (k : ℕ) × (x : A) × (slice_get xs k ≡ Some x) × Contains (f x) y
of_flat_map f [] y has = absurd (not_in_none y has)
of_flat_map f (x ∷ xs) y has =
    elim (Contains-append_cases (f x) (flat_map f xs) y has) [
      | inl here ↦ (0, x, refl, here)
      | inr later ↦ let r = of_flat_map f xs y later in (suc r.0, r.1, r.2, r.3)
    ]

-- ---- distinct

pub distinct_parts : {A : Type 0} (xs ys : List A) → AreDistinct (xs ++ ys) → AreDistinct ys × ((x : A) → Contains xs x → Contains ys x → ⊥)
distinct_parts [] ys d = (d, λ x has also. not_in_none x has)
distinct_parts (x ∷ xs) ys d =
    let rest = distinct_parts xs ys d.1 in (
      rest.0,
      λ z has also. elim (cons_cases x xs z has) [
        | inl e ↦ d.0 (Contains-append_right xs ys x (subst (Contains ys) (sym e) also))
        | inr later ↦ rest.1 z later also
      ],
    )

pub distinct_join : {A : Type 0} (xs ys : List A) → AreDistinct xs → AreDistinct ys → ((x : A) → Contains xs x → Contains ys x → ⊥) → AreDistinct (xs ++ ys)
distinct_join [] ys first second apart = second
distinct_join (x ∷ xs) ys first second apart = (
  λ has. elim (Contains-append_cases xs ys x has) [
    | inl before ↦ first.0 before
    | inr behind ↦ apart x (first_in x xs) behind
  ],
  distinct_join xs ys first.1 second (λ z has also. apart z (later_in x xs z has) also),
)

-- two places of one element
pub distinct_get : {A : Type 0} (xs : List A) (j k : ℕ) (x : A) → AreDistinct xs → j < k → slice_get xs j ≡ Some x → slice_get xs k ≡ Some x → ⊥
distinct_get [] j k x d less one two = absurd cc
distinct_get (y ∷ ys) j zero x d less one two = absurd (omega arith)
distinct_get (y ∷ ys) zero (suc k) x d less one two =
    let e : x ≡ y = cc in
    d.0 (subst (Contains ys) e (get_in ys k x two))
distinct_get (y ∷ ys) (suc j) (suc k) x d less one two = distinct_get ys j k x d.1 (omega arith) one two

-- ---- numbers from one on

pub up_from_in : (n k x : ℕ) → Contains (up_from n k) x → (n ≤ x) × (x < n + k)
up_from_in n zero x has = absurd (not_in_none x has)
up_from_in n (suc k) x has =
    elim (cons_cases n (up_from (n + 1) k) x has) [
      | inl e ↦ (omega arith, omega arith)
      | inr later ↦ let r = up_from_in (n + 1) k x later in let a = r.0 in let b = r.1 in (omega arith, omega arith)
    ]

pub in_up_from : (n k x : ℕ) → n ≤ x → x < n + k → Contains (up_from n k) x
in_up_from n zero x above below = absurd (omega arith)
in_up_from n (suc k) x above below =
    elim (cases_lt n x) [
      | inl less ↦ later_in n (up_from (n + 1) k) x (in_up_from (n + 1) k x (omega arith) (omega arith))
      | inr most ↦ let e : n ≡ x = omega arith in subst (Contains (n ∷ up_from (n + 1) k)) e (first_in n (up_from (n + 1) k))
    ]

pub up_from_distinct : (n k : ℕ) → AreDistinct (up_from n k)
up_from_distinct n zero = tt
up_from_distinct n (suc k) = (λ has. let r = up_from_in (n + 1) k n has in let a = r.0 in absurd (omega arith), up_from_distinct (n + 1) k)

-- ---- a measure rises

pub rises_parts : {A : Type 0} (g : A → ℕ) (xs ys : List A) → Rises g (xs ++ ys) → Rises g xs × Rises g ys × ((x y : A) → Contains xs x → Contains ys y → g x < g y)
rises_parts g [] ys r = (tt, r, λ x y has also. absurd (not_in_none x has))
rises_parts g (x ∷ xs) ys r =
    let rest = rises_parts g xs ys r.1 in (
      (λ y has. r.0 y (Contains-append_left xs ys y has), rest.0),
      rest.1,
      λ z y has also. elim (cons_cases x xs z has) [
        | inl e ↦ subst (λ w. g w < g y) e (r.0 y (Contains-append_right xs ys y also))
        | inr later ↦ rest.2 z y later also
      ],
    )

-- it tells its elements apart
pub rises_apart : {A : Type 0} (g : A → ℕ) (xs : List A) (x y : A) → Rises g xs → Contains xs x → Contains xs y → g x ≡ g y → x ≡ y
rises_apart g [] x y r has also e = absurd (not_in_none x has)
rises_apart g (z ∷ zs) x y r has also e =
    elim (cons_cases z zs x has) [
      | inl first ↦ elim (cons_cases z zs y also) [
        | inl second ↦ sym first ∙ second
        | inr later ↦ let less : g z < g y = r.0 y later in let same : g z ≡ g x = ap g first in absurd (omega arith)
      ]
      | inr before ↦ elim (cons_cases z zs y also) [
        | inl second ↦ let less : g z < g x = r.0 x before in let same : g z ≡ g y = ap g second in absurd (omega arith)
        | inr later ↦ rises_apart g zs x y r.1 before later e
      ]
    ]

pub rises_up_from : (g : ℕ → ℕ) (n k x y : ℕ) → Rises g (up_from n k) → n ≤ x → x < y → y < n + k → g x < g y
rises_up_from g n zero x y r a b c = absurd (omega arith)
rises_up_from g n (suc k) x y r a b c =
    elim (cases_lt n x) [
      | inl less ↦ rises_up_from g (n + 1) k x y r.1 (omega arith) b (omega arith)
      | inr most ↦ let e : n ≡ x = omega arith in subst (λ z. g z < g y) e (r.0 y (in_up_from (n + 1) k y (omega arith) (omega arith)))
    ]

pub map_length : {A B : Type 0} (f : A → B) (xs : List A) → length (map f xs) ≡ length xs
map_length f [] = refl
map_length f (x ∷ xs) = ap suc (map_length f xs)

pub rises_join : {A : Type 0} (g : A → ℕ) (xs ys : List A) → Rises g xs → Rises g ys → ((x y : A) → Contains xs x → Contains ys y → g x < g y) → Rises g (xs ++ ys)
rises_join g [] ys first second less = second
rises_join g (x ∷ xs) ys first second less = (
  λ y has. elim (Contains-append_cases xs ys y has) [
    | inl before ↦ first.0 y before
    | inr behind ↦ less x y (first_in x xs) behind
  ],
  rises_join g xs ys first.1 second (λ z y has also. less z y (later_in x xs z has) also),
)

pub rises_get : {A : Type 0} (g : A → ℕ) (xs : List A) (j k : ℕ) (x y : A) → Rises g xs → j < k → slice_get xs j ≡ Some x → slice_get xs k ≡ Some y → g x < g y
rises_get g [] j k x y r less one two = absurd cc
rises_get g (z ∷ zs) j zero x y r less one two = absurd (omega arith)
rises_get g (z ∷ zs) zero (suc k) x y r less one two =
    let same : z ≡ x = cc in
    subst (λ w. g w < g y) same (r.0 y (get_in zs k y two))
rises_get g (z ∷ zs) (suc j) (suc k) x y r less one two = rises_get g zs j k x y r.1 (omega arith) one two

pub get_map : {A B : Type 0} (f : A → B) (xs : List A) (n : ℕ) (y : B) → slice_get (map f xs) n ≡ Some y → (x : A) × (slice_get xs n ≡ Some x) × (f x ≡ y)
get_map f [] n y at = absurd cc
get_map f (x ∷ xs) zero y at = (x, refl, cc)
get_map f (x ∷ xs) (suc n) y at = get_map f xs n y at

pub map_get : {A B : Type 0} (f : A → B) (xs : List A) (n : ℕ) (x : A) → slice_get xs n ≡ Some x → slice_get (map f xs) n ≡ Some (f x)
map_get f [] n x at = absurd cc
map_get f (y ∷ xs) zero x at = ap (λ o. Some (f o)) (cc)
map_get f (y ∷ xs) (suc n) x at = map_get f xs n x at

-- ---- lists in two

pub get_before : {A : Type 0} (xs ys : List A) (i : ℕ) → i < length xs → slice_get (xs ++ ys) i ≡ slice_get xs i
get_before [] ys i h = absurd (omega arith)
get_before (a ∷ xs) ys zero h = refl
get_before (a ∷ xs) ys (suc i) h = get_before xs ys i (omega arith)
