-- Facts of lists: what is found in them, what is counted, and items that are told apart by their order.
use Rattle.std.proofs.Common.{◌≡◌, ℕ, ◌+◌, ◌-◌, ◌<◌, ◌≤◌, Bool, true, false, cond, List, length, map, take, drop, get_or, count_by, Some, None, refl, sym, ap, ◌∙◌, inl, inr, arith}
use Rattle.std.specs.{Prelude.Contains, Prelude.find, Prelude.reverse, List.slice_get, List.position_or_len}
use Rattle.std.proofs.lemmas.{Bool.cases_Bool, Bool.cases_lt, Bool.false≢true, List.get_or_default, List.get_or-map, List.get_or-reverse, List.length-map, List.length-reverse, List.Folds.find_at}
use Rattle.std.proofs.lemmas.{List.Sums.fails_before_first, List.Sums.passes_at_first, List.Sums.sum_by-take-drop, List.Sums.sum_by-drop_more, List.Sums.sum_by-le-sum_by, Option.slice_get_within}
use Rattle.std.proofs.lemmas.{Option.slice_get_read, Option.slice_get_cases, Option.get_or_from_slice_get}
use Rattle.oat_lines.proofs.Steps.{some_is}

-- a weaker test that one more item passes counts more
pub count_more : {X : Type 0} (test weaker : X → Bool) → ((x : X) → test x ≡ true → weaker x ≡ true) → (xs : List X) (k : ℕ) (x : X)
    → k < length xs → get_or xs k x ≡ x → test x ≡ false → weaker x ≡ true → count_by test xs < count_by weaker xs
count_more {X} test weaker from xs k x within is fails passes =
    let one : X → ℕ = λ y. cond (test y) 1 0 in
    let many : X → ℕ = λ y. cond (weaker y) 1 0 in
    let fewer : (y : X) → one y ≤ many y = λ y.
    elim (cases_Bool (test y)) as (λ _. one y ≤ many y) [
      | inl both ↦ rw (both, from y both) (omega arith)
      | inr neither ↦ rw neither (omega arith)
    ] in
    let here : one (get_or xs k x) ≡ 0 = ap one is ∙ rw fails refl in
    let there : many (get_or xs k x) ≡ 1 = ap many is ∙ rw passes refl in
    omega (
      arith,
      sum_by-take-drop one xs k,
      sum_by-drop_more one xs k x within,
      sum_by-take-drop many xs k,
      sum_by-drop_more many xs k x within,
      sum_by-le-sum_by one many (take k xs) fewer,
      sum_by-le-sum_by one many (drop (k + 1) xs) fewer,
    )

-- ---- items that are found

pub found : {X : Type 0} (test : X → Bool) (xs : List X) (x : X) → find test xs ≡ Some x → Contains xs x × (test x ≡ true)
found test xs x is =
    let at : slice_get xs (position_or_len test xs) ≡ Some x = sym (find_at test xs) ∙ is in
    let within = slice_get_within xs (position_or_len test xs) x at in
    let read = get_or_from_slice_get xs (position_or_len test xs) x x at in
    ((position_or_len test xs, within, read), ap test (sym read) ∙ passes_at_first test xs x within)

pub not_found : {X : Type 0} (test : X → Bool) (xs : List X) (x : X) → find test xs ≡ None → Contains xs x → test x ≡ true → ⊥
not_found test xs x none (k, within, is) passes =
    elim (cases_lt (position_or_len test xs) (length xs)) [
      | inl some ↦
          let item = slice_get_read xs (length xs) (position_or_len test xs) _ refl some (sym (get_or_default xs (position_or_len test xs) _ x some)) in
          let both = sym (find_at test xs ∙ item) ∙ none in
          absurd cc
      | inr past ↦ false≢true (sym (fails_before_first test xs k x (omega arith)) ∙ ap test is ∙ passes)
    ]

-- an item of a mapped list comes from one of the list, and each of the list gives one
pub contained_by : {X Y : Type 0} (h : X → Y) (xs : List X) (y : Y) → Contains (map h xs) y → (x : X) × Contains xs x × (h x ≡ y)
contained_by h xs y (k, within, is) =
    let many : k < length xs = rw length-map at within in
    elim (slice_get_cases xs k).1 [
      | inl item ↦ (item.0, (k, item.1, item.3), ap h (sym item.3) ∙ sym (get_or-map h xs k item.0 y many) ∙ is)
      | inr past ↦ let gone = past.0 in absurd (omega arith)
    ]

pub contains_image : {X Y : Type 0} (h : X → Y) (xs : List X) (x : X) → Contains xs x → Contains (map h xs) (h x)
contains_image h xs x (k, within, is) = (k, rw length-map within, get_or-map h xs k x (h x) within ∙ ap h is)

-- of two items neither of which stands before the other, each is the other
pub one_item : {X : Type 0} (xs : List X) (x y : X) → Contains xs x → Contains xs y
    → ((j k : ℕ) → j < k → slice_get xs j ≡ Some x → slice_get xs k ≡ Some y → ⊥)
    → ((j k : ℕ) → j < k → slice_get xs j ≡ Some y → slice_get xs k ≡ Some x → ⊥) → x ≡ y
one_item xs x y (i, within, is) (k, within', is') before behind =
    let at = slice_get_read xs (length xs) i x refl within (sym is) in
    let at' = slice_get_read xs (length xs) k y refl within' (sym is') in
    elim (cases_lt i k) [
      | inl less ↦ absurd (before i k less at at')
      | inr not_less ↦
          elim (cases_lt k i) [
            | inl more ↦ absurd (behind k i more at' at)
            | inr not_more ↦
                let same : i ≡ k = omega arith in
                some_is x y (sym at ∙ ap (slice_get xs) same ∙ at')
          ]
    ]

-- ---- lists that are read from their end

-- in a list that is read from its end, what is found first stands last
pub last_found : {X : Type 0} (test : X → Bool) (xs : List X) (x : X) → find test (reverse xs) ≡ Some x
    → (k : ℕ) × (k < length xs) × (get_or xs k x ≡ x) × (test x ≡ true)
    × ((i : ℕ) (y : X) → k < i → i < length xs → get_or xs i y ≡ y → test y ≡ false)
last_found test xs x is =
    let at : slice_get (reverse xs) (position_or_len test (reverse xs)) ≡ Some x = sym (find_at test (reverse xs)) ∙ is in
    let within = slice_get_within (reverse xs) (position_or_len test (reverse xs)) x at in
    let many = length-reverse xs in
    let read = get_or_from_slice_get (reverse xs) (position_or_len test (reverse xs)) x x at in (
      length xs - 1 - position_or_len test (reverse xs),
      omega arith,
      sym (get_or-reverse xs (position_or_len test (reverse xs)) x (omega arith)) ∙ read,
      (found test (reverse xs) x is).1,
      λ i y later inside item.
          let place : length xs - 1 - (length xs - 1 - i) ≡ i = omega arith in
          ap test (sym (get_or-reverse xs (length xs - 1 - i) y (omega arith) ∙ ap (λ j. get_or xs j y) place ∙ item))
          ∙ fails_before_first test (reverse xs) (length xs - 1 - i) y (omega arith),
    )

pub none_last : {X : Type 0} (test : X → Bool) (xs : List X) (x : X) → find test (reverse xs) ≡ None → Contains xs x → test x ≡ true → ⊥
none_last test xs x none (k, within, is) passes =
    let place : length xs - 1 - (length xs - 1 - k) ≡ k = omega arith in
    not_found test (reverse xs) x none (
      length xs - 1 - k,
      omega (arith, length-reverse xs),
      get_or-reverse xs (length xs - 1 - k) x (omega arith) ∙ ap (λ j. get_or xs j x) place ∙ is,
    )
    passes
