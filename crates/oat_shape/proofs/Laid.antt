-- What a well-formed image with the shape gives.
use Rattle.std.proofs.Common.{◌≡◌, ℕ, ◌+◌, ◌%◌, ◌^◌, ◌<◌, ◌≤◌, ◌⊎◌, Bool, true, List, length, get_or, Contains, Option, Some, None, refl, sym, ap, subst, ◌∙◌, inl, inr, arith}
use Rattle.std.specs.{Prelude.find, Prelude.IsSome, List.slice_get, Option.option_map}
use Rattle.std.proofs.lemmas.{Bool.cases_lt, Bool.le-leb, Bool.lt-ltb, Bool.leb-true, Bool.ltb-true, Bool.eq-eqb, Bool.and_from, Bool.and_parts, List.get_or-map, List.length-map}
use Rattle.std.proofs.lemmas.{Option.slice_get_within, Option.slice_get-get_or}
use Rattle.oat_a64.specs.{declared.inst.Inst.Inst, Step.word_at}
use Rattle.oat_map.proofs.RowLemmas.{next_lowest}
use Rattle.oat_image.specs.{Row, Jump, Begin, address_of, after, start, begins, is_over, row_over, IsOrdered, Grammar.IsRow, Grammar.IsIndex}
use Rattle.oat_shape.specs.{Groups.Stands, Shape.Covers, Shape.CutsNoGroup, Shape.group_end, Parts.AreApart, Parts.AreWithin, Laid.ShapedImagesAreLaid, Laid.OperationsOpenOnce, Laid.OperationsStart}
use Rattle.oat_shape.specs.{Laid.ElementsHaveTheirCells}
use Rattle.oat_shape.proofs.{Loops.same_item, Scans.at_contains, Scans.contains_at, LastGroups.few_words, LastGroups.after_is, LastGroups.between, RowRules.begins-true, PlaceRules.fetched}
use Rattle.oat_shape.proofs.{PlaceRules.decoded, PlaceRules.of_each, PlaceRules.are_within, PlaceRules.are_apart, Operations.found_item, Operations.none_passes, Operations.opens_nowhere}

-- the one item that passes a test is the one that is found
found_by : {X : Type 0} (test : X → Bool) (xs : List X) (x : X) (o : Option X) → find test xs ≡ o → Contains xs x → test x ≡ true
    → ((y : X) → Contains xs y → test y ≡ true → y ≡ x) → o ≡ Some x
found_by test xs x None found has passes only =
    let at = at_contains xs x has in
    absurd (none_passes test xs at.0 x found at.1 passes)
found_by test xs x (Some y) found has passes only =
    let item = found_item test xs y found in
    ap Some (only y (contains_at xs item.0 y item.1) item.2)

found_only : {X : Type 0} (test : X → Bool) (xs : List X) (x : X) → Contains xs x → test x ≡ true
    → ((y : X) → Contains xs y → test y ≡ true → y ≡ x) → find test xs ≡ Some x
found_only test xs x has passes only = found_by test xs x (find test xs) refl has passes only

-- ---- groups one behind the other

module _ (rows : List Row) (behind : AreApart rows) (low : AreWithin rows) where
  -- two rows are one, or one of them lies wholly behind the other
  split : (r s : Row) → Contains rows r → Contains rows s → (r ≡ s) ⊎ ((group_end r ≤ address_of s) ⊎ (group_end s ≤ address_of r))
  split r s has_r has_s =
      let at_r = at_contains rows r has_r in
      let at_s = at_contains rows s has_s in
      let end_r = after_is r (low r has_r) in
      let end_s = after_is s (low s has_s) in
      elim (cases_lt at_r.0 at_s.0) [
        | inl less ↦ let step = between rows behind low at_r.0 at_s.0 r s less at_r.1 at_s.1 in inr (inl (omega arith))
        | inr not_less ↦
            elim (cases_lt at_s.0 at_r.0) [
              | inl more ↦ let step = between rows behind low at_s.0 at_r.0 s r more at_s.1 at_r.1 in inr (inr (omega arith))
              | inr not_more ↦ inl (same_item rows at_r.0 at_s.0 r s (omega arith) at_r.1 at_s.1)
            ]
      ]

  one_covers : (p : ℕ) (r s : Row) → Contains rows r → Contains rows s → Covers r p → Covers s p → r ≡ s
  one_covers p r s has_r has_s over_r over_s =
      elim (split r s has_r has_s) [
        | inl same ↦ same
        | inr (inl h) ↦ let one = over_r.1 in let two = over_s.0 in absurd (omega arith)
        | inr (inr h) ↦ let one = over_s.1 in let two = over_r.0 in absurd (omega arith)
      ]

  end_cuts_none : (r : Row) → Contains rows r → CutsNoGroup rows (group_end r)
  end_cuts_none r has_r s has_s below =
      elim (split r s has_r has_s) [
        | inl same ↦ subst (λ (q : Row). group_end q ≤ group_end r) same (omega arith)
        | inr (inl h) ↦ absurd (omega arith)
        | inr (inr h) ↦ let few = few_words r in omega (arith, few.0)
      ]

  row_is_over : (r : Row) (p : ℕ) → Contains rows r → Covers r p → row_over rows p ≡ Some r
  row_is_over r p has covers =
      found_only (is_over p) rows r has (and_from _ _ (le-leb (address_of r) p covers.0) (lt-ltb p (group_end r) covers.1))
      (λ s has_s over.
      let parts = and_parts _ _ over in
      one_covers p s r has_s has (leb-true (address_of s) p parts.0, ltb-true p (group_end s) parts.1) covers)

  rows_ordered : IsOrdered rows
  rows_ordered k within =
      let many : k + 1 < length rows = rw length-map at within in
      let d : Row = Jump 0 0 in
      let r = get_or rows k d in
      let s = get_or rows (k + 1) d in
      let at_r : slice_get rows k ≡ Some r = slice_get-get_or rows k d (omega arith) in
      let at_s : slice_get rows (k + 1) ≡ Some s = slice_get-get_or rows (k + 1) d many in
      let step = between rows behind low k (k + 1) r s (omega arith) at_r at_s in
      let ends = after_is r (low r (contains_at rows k r at_r)) in
      let few = few_words r in
      let lower : address_of r < address_of s = omega (arith, few.0) in
      rw (get_or-map address_of rows k d 0 (omega arith), get_or-map address_of rows (k + 1) d 0 many) lower

-- ---- instructions and operations

coded_at : (code : List ℕ) (p : ℕ) (i : Inst) → length code ≤ 131072 → Stands code p i → (p % 4 ≡ 0) × (p < 2 ^ 32)
coded_at code p i short stands =
    let word = decoded (word_at code p) i stands in
    let from = fetched code p word.0 word.1 in
    let within = slice_get_within code from.0 word.0 from.1 in
    let at = from.2 in
    (omega arith, omega arith)

-- no two rows begin one operation
abbrev BegunOnce : List Row → Type 0
BegunOnce rows = (op k j at other : ℕ) → slice_get rows k ≡ Some (Begin at op) → j < k → slice_get rows j ≡ Some (Begin other op) → ⊥

begun_once : (rows : List Row) → BegunOnce rows → (op at other : ℕ) → Contains rows (Begin at op) → Contains rows (Begin other op) → other ≡ at
begun_once rows once op at other one two =
    let at_one = at_contains rows (Begin at op) one in
    let at_two = at_contains rows (Begin other op) two in
    elim (cases_lt at_one.0 at_two.0) [
      | inl less ↦ absurd (once op at_two.0 at_one.0 other at at_two.1 less at_one.1)
      | inr not_less ↦
          elim (cases_lt at_two.0 at_one.0) [
            | inl more ↦ absurd (once op at_one.0 at_two.0 at other at_one.1 more at_two.1)
            | inr not_more ↦ let same = same_item rows at_two.0 at_one.0 (Begin other op) (Begin at op) (omega arith) at_two.1 at_one.1 in cc
          ]
    ]

begun_at : (rows : List Row) → BegunOnce rows → (at op : ℕ) → Contains rows (Begin at op) → start rows op ≡ Some (after (Begin at op))
begun_at rows once at op has =
    ap (option_map after) (found_only (begins op) rows (Begin at op) has (eq-eqb op op refl)
    (λ row contained passes.
    let begin = begins-true op row passes in
    begin.1 ∙ ap (λ (b : ℕ). Begin b op) (begun_once rows once op at begin.0 has (subst (Contains rows) begin.1 contained))))

pub opens_once : OperationsOpenOnce
opens_once m op one other paired begin again =
    let once : BegunOnce m.rows = λ o k j at b at_k below at_j. paired at k (Begin at o) at_k refl j b below at_j in
    again.2 ∙ ap (λ (at : ℕ). at + 4) (begun_once m.rows once op begin.0 again.0 begin.1 again.1) ∙ sym begin.2

some_there : (place : Option ℕ) → (place ≡ None → ⊥) → IsSome place
some_there None never = absurd (never refl)
some_there (Some at) never = refl

pub starts : OperationsStart
starts m op operation = some_there (start m.rows op) (λ none. opens_nowhere m op none operation)

-- ---- all of it

pub laid : ShapedImagesAreLaid
laid image formed shaped =
    let rows = image.map.rows in
    let low : AreWithin rows = are_within image rows refl formed in
    let behind : AreApart rows = are_apart image rows refl shaped.rises in
    let once : BegunOnce rows = λ op k j at other at_k below at_j. shaped.paired at k (Begin at op) at_k refl j other below at_j in
    record {
      ordered = rows_ordered rows behind low;
      low = λ r has.
          let fits = low r has in
          let few = few_words r in
          (of_each IsRow rows formed.rows.each r has, omega (arith, few.1), after_is r fits);
      group = λ r has. (shaped.grouped (address_of r)).groups r has refl;
      leads = λ r has. shaped.leads (address_of r) r has refl;
      over = row_is_over rows behind low;
      next_is = λ t row found.
          let at = next_lowest rows t row (rows_ordered rows behind low) found in
          record { has = at.0; above = at.1; lowest = at.2 };
      behind = end_cuts_none rows behind low;
      place = shaped.apart;
      coded = λ p i stands. coded_at image.code p i formed.code.limited stands;
      covered = λ p i stands special. (shaped.grouped p).transfers i stands special;
      cell = λ index has. of_each IsIndex image.cells formed.cells.each index has;
      begun = begun_at rows once;
    }

-- ---- elements of arrays

pub elements_have_cells : ElementsHaveTheirCells
elements_have_cells image cell len index i laid elements below =
    let own = elements.consecutive i below in
    record {
      own = own;
      within = laid.cell (index + i) (contains_at image.cells (cell + i) (index + i) own);
      behind = omega arith;
    }
