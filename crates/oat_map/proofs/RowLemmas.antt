-- Rows in the order of their addresses, and the row next behind an address.
use Rattle.std.proofs.Common.{◌≡◌, ℕ, zero, suc, ◌+◌, ◌-◌, ◌<◌, ◌≤◌, Bool, true, false, List, [], ◌∷◌, length, map, get_or, None, Some, refl, sym, ap, subst, ◌∙◌, inl, inr, arith, cond, position}
use Rattle.std.specs.{List.slice_get, List.position_or_len, List.find, Option.option_and_then, Prelude.nat_le, Prelude.nat_lt, List.Sorted.IsPartitionedBy, List.Sorted.IsPartitionPoint}
use Rattle.std.specs.{List.Sorted.IsNonDecreasingBy}
use Rattle.std.proofs.lemmas.{Bool.cases_lt, Bool.lt-ltb, Bool.le-ltb, Bool.le-leb, Bool.lt-leb, Bool.ltb-true, Bool.ltb-false, Bool.leb-true, Bool.leb-false, List.get_or_default, List.get_or-map}
use Rattle.std.proofs.lemmas.{List.length-map, List.Folds.find_at, List.Sorted.IsPartitionedBy-ltb, List.Sums.position_or_len_is, List.Kept.AllPairs-from_increasing, Option.slice_get_past}
use Rattle.oat_map.specs.{declared.row.Row.Row, declared.row.Row.TheVariants.Jump, Rows.address_of, Rows.next, Rows.IsOrdered, Rows.NextIsLowest}

-- the rows' addresses rise up to row number i
abbrev pub RisesBelow : List Row → ℕ → Type 0
RisesBelow rows i = (k : ℕ) → k + 1 < i → get_or (map address_of rows) k 0 < get_or (map address_of rows) (k + 1) 0

pub RisesBelow-next : (rows : List Row) (i : ℕ) (d : Row) → 1 ≤ i → i < length rows
    → address_of (get_or rows (i - 1) d) < address_of (get_or rows i d) → RisesBelow rows i → RisesBelow rows (i + 1)
RisesBelow-next rows i d behind within above rises k below =
    elim (cases_lt (k + 1) i) [
      | inl less ↦ rises k less
      | inr last ↦
          let here : k ≡ i - 1 = omega arith in
          let there : k + 1 ≡ i = omega arith in
          rw (there, here, get_or-map address_of rows (i - 1) d 0 (omega arith), get_or-map address_of rows i d 0 within) above
    ]

pub not_ordered : (rows : List Row) (i : ℕ) (d : Row) → 1 ≤ i → i < length rows
    → address_of (get_or rows i d) ≤ address_of (get_or rows (i - 1) d) → IsOrdered rows → ⊥
not_ordered rows i d behind within falls ordered =
    let here : i - 1 + 1 ≡ i = omega arith in
    let many : i - 1 + 1 < length (map address_of rows) = rw length-map (omega arith) in
    let rises : address_of (get_or rows (i - 1) d) < address_of (get_or rows i d) =
    rw (here, get_or-map address_of rows (i - 1) d 0 (omega arith), get_or-map address_of rows i d 0 within) at (ordered (i - 1) many) in
    omega arith

-- an order that was seen to the end
pub is_ordered : (rows : List Row) (i : ℕ) → length rows ≤ i → RisesBelow rows i → IsOrdered rows
is_ordered rows i all rises k below =
    let within = rw length-map at below in
    rises k (omega arith)

pub row_at_position : {X : Type 0} (test : X → Bool) (xs : List X)
    → option_and_then (slice_get xs) (position test xs) ≡ find test xs
row_at_position test xs =
    elim (cases_lt (position_or_len test xs) (length xs)) [
      | inl within ↦ rw (lt-ltb (position_or_len test xs) (length xs) within) (sym (find_at test xs))
      | inr past ↦ rw (le-ltb (position_or_len test xs) (length xs) past) (sym (find_at test xs ∙ slice_get_past xs (position_or_len test xs) past))
    ]

pub next_at_position : (rows : List Row) (place : ℕ)
    → option_and_then (slice_get rows) (position (λ row. nat_le place (address_of row)) rows) ≡ next rows place
next_at_position rows place = row_at_position (λ row. nat_le place (address_of row)) rows

-- the first element that passes, by its place
record FoundAt {X : Type 0} (test : X → Bool) (xs : List X) (x : X) : Type 0 where
  index : ℕ
  within : index < length xs
  is : get_or xs index x ≡ x
  passes : test x ≡ true
  before : (k : ℕ) (d : X) → k < index → test (get_or xs k d) ≡ false

before_cons : {X : Type 0} (test : X → Bool) (y : X) (ys : List X) (index : ℕ) → test y ≡ false
    → ((k : ℕ) (d : X) → k < index → test (get_or ys k d) ≡ false)
    → (k : ℕ) (d : X) → k < suc index → test (get_or (y ∷ ys) k d) ≡ false
before_cons test y ys index fails before zero d below = fails
before_cons test y ys index fails before (suc k) d below = before k d (omega arith)

found_step : {X : Type 0} (test : X → Bool) (y : X) (ys : List X) (x : X) (passes : Bool) → test y ≡ passes
    → cond passes (Some y) (find test ys) ≡ Some x → (find test ys ≡ Some x → FoundAt test ys x) → FoundAt test (y ∷ ys) x
found_step test y ys x true is found later =
    let same : y ≡ x = cc in
    record { index = 0; within = omega arith; is = same; passes = ap test (sym same) ∙ is; before = λ k d below. absurd (omega arith) }
found_step test y ys x false is found later =
    let rest = later found in
    let within = rest.within in
    record {
      index = suc rest.index;
      within = omega arith;
      is = rest.is;
      passes = rest.passes;
      before = before_cons test y ys rest.index is rest.before;
    }

found_at : {X : Type 0} (test : X → Bool) (xs : List X) (x : X) → find test xs ≡ Some x → FoundAt test xs x
found_at test [] x found = absurd (cc)
found_at test (y ∷ ys) x found = found_step test y ys x (test y) refl found (found_at test ys x)

pub next_lowest : NextIsLowest
next_lowest rows place lowest ordered found =
    let at = found_at (λ row. nat_le place (address_of row)) rows lowest found in (
      (at.index, at.within, at.is),
      leb-true place (address_of lowest) at.passes,
      λ other (k, within, is) above.
          elim (cases_lt k at.index) [
            | inl before ↦
                let fails : nat_le place (address_of other) ≡ false = rw is at (at.before k other before) in
                let below = leb-false place (address_of other) fails in
                absurd (omega arith)
            | inr behind ↦
                elim (cases_lt at.index k) [
                  | inl later ↦
                      let many : k < length (map address_of rows) = rw length-map within in
                      let rises = AllPairs-from_increasing (map address_of rows) ordered at.index k 0 later many in
                      let rises' = rw (get_or-map address_of rows at.index lowest 0 at.within, get_or-map address_of rows k other 0 within, at.is, is) at rises in
                      omega arith
                  | inr not_later ↦
                      let same : at.index ≡ k = omega arith in
                      let here : get_or rows k lowest ≡ lowest = subst (λ i. get_or rows i lowest ≡ lowest) same at.is in
                      let both : lowest ≡ other = sym here ∙ get_or_default rows k lowest other within ∙ is in
                      let equal : address_of lowest ≡ address_of other = ap address_of both in
                      omega arith
                ]
          ],
    )

IsNonDecreasingBy-rows : (rows : List Row) → IsOrdered rows → IsNonDecreasingBy address_of rows
IsNonDecreasingBy-rows rows ordered i j d before within =
    elim (cases_lt i j) [
      | inl less ↦
          let many : j < length (map address_of rows) = rw length-map within in
          let rises = AllPairs-from_increasing (map address_of rows) ordered i j 0 less many in
          let rises' = rw (get_or-map address_of rows i d 0 (omega arith), get_or-map address_of rows j d 0 within) at rises in
          omega arith
      | inr not_less ↦
          let same : i ≡ j = omega arith in
          rw same (omega arith)
    ]

-- ordered rows are parted by a place: those below it stand first
pub rows_parted : (rows : List Row) (place : ℕ) → IsOrdered rows → IsPartitionedBy (λ row. nat_lt (address_of row) place) rows
rows_parted rows place ordered = IsPartitionedBy-ltb address_of rows place (IsNonDecreasingBy-rows rows ordered)

-- where the rows below the place end, the row next at or above it stands
module _ (rows : List Row) (place index : ℕ) (bound : index ≤ length rows)
    (point : IsPartitionPoint (λ row. nat_lt (address_of row) place ≡ true) (λ row. nat_lt (address_of row) place ≡ false) rows index) where
  position_at_point : position_or_len (λ row. nat_le place (address_of row)) rows ≡ index
  position_at_point =
      position_or_len_is (λ row. nat_le place (address_of row)) rows index (Jump 0 0) bound
      (λ k below.
      let less : address_of (get_or rows k (Jump 0 0)) < place = ltb-true _ _ (point.0 k (Jump 0 0) (omega arith) below) in
      lt-leb _ _ less)
      (λ within.
      let at_least : place ≤ address_of (get_or rows index (Jump 0 0)) = ltb-false _ _ (point.1 index (Jump 0 0) (omega arith) within) in
      le-leb _ _ at_least)

  pub found_at_point : index < length rows → Some index ≡ position (λ row. nat_le place (address_of row)) rows
  found_at_point within = rw (position_at_point, lt-ltb index (length rows) within) refl

  pub none_at_point : length rows ≤ index → None ≡ position (λ row. nat_le place (address_of row)) rows
  none_at_point past = rw (position_at_point, le-ltb index (length rows) past) refl
