-- The lowest address of two rules, and of the items of a list.
use Rattle.std.proofs.Common.{◌≡◌, ℕ, ◌+◌, ◌<◌, ◌≤◌, Bool, true, false, cond, leb, List, length, Option, Some, None, refl, sym, ◌∙◌, ap, subst, inl, inr, arith}
use Rattle.std.specs.{Prelude.IsTrue, Prelude.◌↔◌, Prelude.Contains, List.slice_get}
use Rattle.std.proofs.lemmas.{Bool.cases_lt, Bool.false≢true, Bool.leb-true, Bool.leb-false, Option.slice_get_within, Option.slice_get_read, Option.get_or_from_slice_get}
use Rattle.oat_shape.specs.{Shape.FailsLowest, Lowest.Lowest, Lowest.EachAt, Lowest.EachBelow, Lowest.lower, Lowest.noted}
use Rattle.oat_shape.proofs.Loops.{same_item}

-- ---- rules

pub lowest_same : (P Q : ℕ → Type 0) (lowest : Option ℕ) → ((a : ℕ) → P a → Q a) → ((a : ℕ) → Q a → P a) → Lowest P lowest → Lowest Q lowest
lowest_same P Q None to from h = λ a. to a (h a)
lowest_same P Q (Some at) to from h = record { fails = λ q. h.fails (from at q); lowest = λ a below. to a (h.lowest a below) }

picked : (P Q : ℕ → Type 0) (first second : ℕ) (least : Bool) → least ≡ leb first second → FailsLowest P first → FailsLowest Q second
    → Lowest (λ a. P a × Q a) (cond least (Some first) (Some second))
picked P Q first second true said p q =
    let below : first ≤ second = leb-true first second (sym said) in
    record { fails = λ both. p.fails both.0; lowest = λ a less. (p.lowest a less, q.lowest a (omega arith)) }
picked P Q first second false said p q =
    let above : second < first = leb-false first second (sym said) in
    record { fails = λ both. q.fails both.1; lowest = λ a less. (p.lowest a (omega arith), q.lowest a less) }

-- two rules as one
pub lowest_both : (P Q : ℕ → Type 0) (first second : Option ℕ) → Lowest P first → Lowest Q second → Lowest (λ a. P a × Q a) (lower first second)
lowest_both P Q None None p q = λ a. (p a, q a)
lowest_both P Q None (Some second) p q = record { fails = λ both. q.fails both.1; lowest = λ a below. (p a, q.lowest a below) }
lowest_both P Q (Some first) None p q = record { fails = λ both. p.fails both.0; lowest = λ a below. (p.lowest a below, q a) }
lowest_both P Q (Some first) (Some second) p q = picked P Q first second (leb first second) refl p q

-- a rule, and besides a fact at one address
pub lowest_noted : (P : ℕ → Type 0) (G : Type 0) (lowest : Option ℕ) (keeps : Bool) (at : ℕ) → (IsTrue keeps ↔ G)
    → Lowest P lowest → Lowest (λ a. P a × (at ≡ a → G)) (noted lowest keeps at)
lowest_noted P G lowest true at tells h =
    lowest_same P (λ a. P a × (at ≡ a → G)) lowest (λ a p. (p, λ here. tells.0 refl)) (λ a both. both.0) h
lowest_noted P G lowest false at tells h =
    lowest_both P (λ a. at ≡ a → G) lowest (Some at) h
    (record { fails = λ q. false≢true (tells.1 (q refl)); lowest = λ a below here. absurd (omega arith) })

-- ---- items

pub at_contains : {X : Type 0} (xs : List X) (x : X) → Contains xs x → (k : ℕ) × (slice_get xs k ≡ Some x)
at_contains xs x has = (has.0, slice_get_read xs (length xs) has.0 x refl has.1 (sym has.2))

pub contains_at : {X : Type 0} (xs : List X) (k : ℕ) (x : X) → slice_get xs k ≡ Some x → Contains xs x
contains_at xs k x found = (k, slice_get_within xs k x found, get_or_from_slice_get xs k x x found)

pub scan_none : {X : Type 0} (xs : List X) (place : ℕ → X → ℕ) (Keeps : ℕ → X → Type 0) → Lowest (EachBelow xs place Keeps 0) None
scan_none xs place Keeps = λ a k x below found at. absurd (omega arith)

pub scan_noted : {X : Type 0} (xs : List X) (place : ℕ → X → ℕ) (Keeps : ℕ → X → Type 0) (i : ℕ) (x : X) (lowest : Option ℕ) (keeps : Bool) (at : ℕ)
    (next : Option ℕ) → slice_get xs i ≡ Some x → at ≡ place i x → next ≡ noted lowest keeps at → (IsTrue keeps ↔ Keeps i x)
    → Lowest (EachBelow xs place Keeps i) lowest → Lowest (EachBelow xs place Keeps (i + 1)) next
scan_noted {X} xs place Keeps i x lowest keeps at next here there is tells h =
    let more : Lowest (λ a. EachBelow xs place Keeps i a × (at ≡ a → Keeps i x)) (noted lowest keeps at) =
    lowest_noted (EachBelow xs place Keeps i) (Keeps i x) lowest keeps at tells h in
    subst (Lowest (EachBelow xs place Keeps (i + 1))) (sym is)
    (lowest_same (λ a. EachBelow xs place Keeps i a × (at ≡ a → Keeps i x)) (EachBelow xs place Keeps (i + 1)) (noted lowest keeps at)
    (λ a both k y below found stands.
    elim (cases_lt k i) as (λ _. Keeps k y) [
      | inl less ↦ both.0 k y less found stands
      | inr past ↦
          let last : i ≡ k = omega arith in
          let same : x ≡ y = same_item xs i k x y last here found in
          subst (λ (z : X). Keeps k z) same
          (subst (λ (j : ℕ). Keeps j x) last
          (both.1 (there ∙ ap (λ j. place j x) last ∙ ap (place k) same ∙ stands)))
    ])
    (λ a each. (
      λ k y below found stands. each k y (omega arith) found stands,
      λ stands. each i x (omega arith) here (sym there ∙ stands),
    ))
    more)

pub scan_all : {X : Type 0} (xs : List X) (place : ℕ → X → ℕ) (Keeps : ℕ → X → Type 0) (i : ℕ) (lowest : Option ℕ) → length xs ≤ i
    → Lowest (EachBelow xs place Keeps i) lowest → Lowest (EachAt xs place Keeps) lowest
scan_all xs place Keeps i lowest past h =
    lowest_same (EachBelow xs place Keeps i) (EachAt xs place Keeps) lowest
    (λ a each k x found stands. let within = slice_get_within xs k x found in each k x (omega arith) found stands)
    (λ a each k x below found stands. each k x found stands) h

-- two facts of each item
pub scan_noted_both : {X : Type 0} (xs : List X) (place : ℕ → X → ℕ) (First Second : ℕ → X → Type 0) (i : ℕ) (x : X) (lowest : Option ℕ)
    (one two : Bool) (at : ℕ) (between next : Option ℕ) → slice_get xs i ≡ Some x → at ≡ place i x
    → between ≡ noted lowest one at → next ≡ noted between two at → (IsTrue one ↔ First i x) → (IsTrue two ↔ Second i x)
    → Lowest (EachBelow xs place (λ k y. First k y × Second k y) i) lowest
    → Lowest (EachBelow xs place (λ k y. First k y × Second k y) (i + 1)) next
scan_noted_both {X} xs place First Second i x lowest one two at between next here there is_between is tells_first tells_second h =
    let Both = λ (k : ℕ) (y : X). First k y × Second k y in
    let more : Lowest (λ a. EachBelow xs place Both i a × (at ≡ a → First i x)) (noted lowest one at) =
    lowest_noted (EachBelow xs place Both i) (First i x) lowest one at tells_first h in
    let most : Lowest (λ a. (EachBelow xs place Both i a × (at ≡ a → First i x)) × (at ≡ a → Second i x)) (noted between two at) =
    lowest_noted (λ a. EachBelow xs place Both i a × (at ≡ a → First i x)) (Second i x) between two at tells_second
    (subst (Lowest (λ a. EachBelow xs place Both i a × (at ≡ a → First i x))) (sym is_between) more) in
    subst (Lowest (EachBelow xs place Both (i + 1))) (sym is)
    (lowest_same (λ a. (EachBelow xs place Both i a × (at ≡ a → First i x)) × (at ≡ a → Second i x)) (EachBelow xs place Both (i + 1)) (noted between two at)
    (λ a both k y below found stands.
    elim (cases_lt k i) as (λ _. Both k y) [
      | inl less ↦ both.0.0 k y less found stands
      | inr past ↦
          let last : i ≡ k = omega arith in
          let same : x ≡ y = same_item xs i k x y last here found in
          let stood : at ≡ a = there ∙ ap (λ j. place j x) last ∙ ap (place k) same ∙ stands in
          subst (λ (z : X). Both k z) same
          (subst (λ (j : ℕ). Both j x) last
          (both.0.1 stood, both.1 stood))
    ])
    (λ a each. (
      (
        λ k y below found stands. each k y (omega arith) found stands,
        λ stands. (each i x (omega arith) here (sym there ∙ stands)).0,
      ),
      λ stands. (each i x (omega arith) here (sym there ∙ stands)).1,
    ))
    most)
