-- Groups that lie one behind the other, and the last of them that begins below a place.
use Rattle.std.proofs.Common.{◌≡◌, ℕ, zero, suc, ◌+◌, ◌-◌, ◌*◌, ◌%◌, ◌^◌, ◌<◌, ◌≤◌, true, false, leb, ltb, List, length, get_or, Some, refl, sym, ap, subst, inl, inr, arith}
use Rattle.std.specs.{Prelude.IsTrue, Prelude.◌↔◌, List.slice_get, List.Sorted.IsNonDecreasingBy, List.Sorted.IsPartitionPoint}
use Rattle.std.proofs.Math.Nat.{mod-eq_of_lt}
use Rattle.std.proofs.lemmas.{Bool.cases_lt, Bool.leb-true, Bool.le-leb, Bool.ltb-true, Bool.lt-ltb, Bool.ltb-false, Option.slice_get_within, Option.slice_get-get_or, Option.get_or_from_slice_get}
use Rattle.oat_image.specs.{Row, Jump, address_of, word_count, after}
use Rattle.oat_shape.specs.{Parts.AreApart, Parts.AreWithin, Parts.EndsBelow, Parts.IsCovered, Shape.CutsNoGroup}
use Rattle.oat_shape.proofs.{Loops.same_item, Scans.at_contains, Scans.contains_at}

-- ---- one group

pub few_words : (row : Row) → (1 ≤ word_count row) × (word_count row ≤ 10)
few_words (Jump at to) = (omega arith, omega arith)
few_words _ = (omega arith, omega arith)

small_sum : (a n : ℕ) → a < 2 ^ 32 → n ≤ 10 → (a + 4 * n) % 2 ^ 64 ≡ a + 4 * n
small_sum a n low few = mod-eq_of_lt (omega arith)

pub after_is : (row : Row) → address_of row < 2 ^ 32 → after row ≡ address_of row + 4 * word_count row
after_is row low = small_sum (address_of row) (word_count row) low (few_words row).1

-- ---- one behind the other

pub between : (rows : List Row) → AreApart rows → AreWithin rows → (i j : ℕ) (x y : Row) → i < j
    → slice_get rows i ≡ Some x → slice_get rows j ≡ Some y → after x ≤ address_of y
between rows apart within i zero x y below at_x at_y = absurd (omega arith)
between rows apart within i (suc j) x y below at_x at_y =
    elim (cases_lt i j) as (λ _. after x ≤ address_of y) [
      | inl less ↦
          let last = slice_get_within rows (suc j) y at_y in
          let at_z = slice_get-get_or rows j (Jump 0 0) (omega arith) in
          let first = between rows apart within i j x (get_or rows j (Jump 0 0)) less at_x at_z in
          let step : after (get_or rows j (Jump 0 0)) ≤ address_of y = apart (suc j) y at_y j (get_or rows j (Jump 0 0)) (omega arith) at_z in
          let own = after_is (get_or rows j (Jump 0 0)) (within (get_or rows j (Jump 0 0)) (contains_at rows j (get_or rows j (Jump 0 0)) at_z)) in
          omega arith
      | inr past ↦ apart (suc j) y at_y i x (omega arith) at_x
    ]

pub rows_rise : (rows : List Row) → AreApart rows → AreWithin rows → IsNonDecreasingBy address_of rows
rows_rise rows apart within i j d below inside =
    elim (cases_lt i j) as (λ _. address_of (get_or rows i d) ≤ address_of (get_or rows j d)) [
      | inl less ↦
          let at_x = slice_get-get_or rows i d (omega arith) in
          let at_y = slice_get-get_or rows j d inside in
          let first = between rows apart within i j (get_or rows i d) (get_or rows j d) less at_x at_y in
          let own = after_is (get_or rows i d) (within (get_or rows i d) (contains_at rows i (get_or rows i d) at_x)) in
          omega arith
      | inr past ↦ let same : i ≡ j = omega arith in rw same (omega arith)
    ]

-- ---- the last below a place

abbrev pub Parted : List Row → ℕ → ℕ → Type 0
Parted rows place next = IsPartitionPoint (λ row. ltb (address_of row) place ≡ true) (λ row. ltb (address_of row) place ≡ false) rows next

counted : (rows : List Row) (place next : ℕ) → Parted rows place next → (k : ℕ) (row : Row) → slice_get rows k ≡ Some row
    → address_of row < place → k < next
counted rows place next parted k row found low =
    elim (cases_lt k next) as (λ _. k < next) [
      | inl less ↦ less
      | inr past ↦
          let within = slice_get_within rows k row found in
          let high = ltb-false (address_of (get_or rows k row)) place (parted.1 k row past within) in
          let same = get_or_from_slice_get rows k row row found in
          let high_row : place ≤ address_of row = subst (λ (r : Row). place ≤ address_of r) same high in
          absurd (omega arith)
    ]

pub ends_none : (rows : List Row) (place next : ℕ) → Parted rows place next → next ≡ 0 → EndsBelow rows place 0
ends_none rows place next parted none = record {
  bounds = λ row has low.
      let found = at_contains rows row has in
      let some = counted rows place next parted found.0 row found.1 low in
      absurd (omega arith);
  reached = inl refl;
}

pub ends_some : (rows : List Row) (place next end : ℕ) → AreApart rows → AreWithin rows → next ≤ length rows → 1 ≤ next
    → Parted rows place next → end ≡ after (get_or rows (next - 1) (Jump 0 0)) → EndsBelow rows place end
ends_some rows place next end apart within many some parted is =
    let last = get_or rows (next - 1) (Jump 0 0) in
    let at_last = slice_get-get_or rows (next - 1) (Jump 0 0) (omega arith) in
    let has = contains_at rows (next - 1) last at_last in
    let own = after_is last (within last has) in
    record {
      bounds = λ row has_row low.
          let found = at_contains rows row has_row in
          let less = counted rows place next parted found.0 row found.1 low in
          elim (cases_lt found.0 (next - 1)) as (λ _. after row ≤ end) [
            | inl before ↦
                let behind = between rows apart within found.0 (next - 1) row last before found.1 at_last in
                omega arith
            | inr past ↦
                let here : found.0 ≡ next - 1 = omega arith in
                let same : row ≡ last = same_item rows found.0 (next - 1) row last here found.1 at_last in
                let ends : after row ≡ after last = ap after same in
                omega arith
          ];
      reached = inr (last, has, ltb-true (address_of last) place (parted.0 (next - 1) (Jump 0 0) (omega arith) (omega arith)), sym is);
    }

-- ---- inside and covered

pub clear_iff : (rows : List Row) (place end : ℕ) → AreWithin rows → EndsBelow rows place end → IsTrue (leb end place) ↔ CutsNoGroup rows place
clear_iff rows place end within ends = (
  λ yes row has below.
      let low = leb-true end place yes in
      let bound = ends.bounds row has below in
      let own = after_is row (within row has) in
      omega arith,
  λ clear.
      le-leb end place
      (elim ends.reached as (λ _. end ≤ place) [
        | inl none ↦ omega arith
        | inr last ↦
            elim (cases_lt place end) as (λ _. end ≤ place) [
              | inl high ↦
                  let own = after_is last.0 (within last.0 last.1) in
                  let ends_there = last.3 in
                  let ends_here = clear last.0 last.1 last.2 in
                  omega arith
              | inr low ↦ low
            ]
      ]),
)

pub covered_iff : (rows : List Row) (place end : ℕ) → AreWithin rows → EndsBelow rows (place + 1) end → IsTrue (ltb place end) ↔ IsCovered rows place
covered_iff rows place end within ends = (
  λ yes.
      let high = ltb-true place end yes in
      elim ends.reached as (λ _. IsCovered rows place) [
        | inl none ↦ absurd (omega arith)
        | inr last ↦
            let own = after_is last.0 (within last.0 last.1) in
            let starts = last.2 in
            let ends_there = last.3 in
            (last.0, last.1, (omega arith, omega arith))
      ],
  λ covered.
      let from = covered.2.0 in
      let to = covered.2.1 in
      let bound = ends.bounds covered.0 covered.1 (omega arith) in
      let own = after_is covered.0 (within covered.0 covered.1) in
      lt-ltb place end (omega arith),
)
