-- Where the window of an operation opens, by the row that begins it.
use Rattle.std.proofs.Common.{◌≡◌, ℕ, zero, suc, ◌+◌, ◌-◌, ◌^◌, ◌<◌, ◌≤◌, Bool, true, List, [], ◌∷◌, Option, Some, None, refl, sym, ◌∙◌, ap, subst, inl, inr, arith}
use Rattle.std.specs.{Prelude.find, Prelude.Contains, List.slice_get, Option.option_map}
use Rattle.std.proofs.Math.Nat.{mod-eq_of_lt}
use Rattle.std.proofs.lemmas.Bool.{cases_Bool}
use Rattle.oat_image.specs.{Map, Row, Begin, after, begins, start, BeginsAt, IsOperation}
use Rattle.oat_shape.specs.Parts.{AreWithin}
use Rattle.oat_shape.proofs.{Scans.at_contains, Scans.contains_at, RowRules.begins-true, RowRules.begins-itself}

pub found_item : {X : Type 0} (test : X → Bool) (xs : List X) (x : X) → find test xs ≡ Some x → (k : ℕ) × (slice_get xs k ≡ Some x) × (test x ≡ true)
found_item test [] x found = absurd (cc)
found_item test (y ∷ xs) x found =
    elim (cases_Bool (test y)) as (λ _. (k : ℕ) × (slice_get (y ∷ xs) k ≡ Some x) × (test x ≡ true)) [
      | inl here ↦
          let first = rw here at found in
          let same : y ≡ x = cc in
          (0, first, ap test (sym same) ∙ here)
      | inr later ↦
          let further = found_item test xs x (rw later at found) in
          (suc further.0, further.1, further.2)
    ]

pub none_passes : {X : Type 0} (test : X → Bool) (xs : List X) (k : ℕ) (x : X) → find test xs ≡ None → slice_get xs k ≡ Some x → test x ≡ true → ⊥
none_passes test [] k x none found passes = absurd (cc)
none_passes test (y ∷ xs) zero x none found passes =
    let same : y ≡ x = cc in
    let here : test y ≡ true = ap test same ∙ passes in
    let first = rw here at none in
    absurd (cc)
none_passes test (y ∷ xs) (suc k) x none found passes =
    elim (cases_Bool (test y)) as (λ _. ⊥) [
      | inl here ↦ let first = rw here at none in absurd (cc)
      | inr later ↦ none_passes test xs k x (rw later at none) found passes
    ]

started : (row : Option Row) (at : ℕ) → option_map (λ r. after r) row ≡ Some at → (r : Row) × (row ≡ Some r) × (after r ≡ at)
started None at h = absurd (cc)
started (Some row) at h = let same : after row ≡ at = cc in (row, refl, same)

not_started : (row : Option Row) → option_map (λ r. after r) row ≡ None → row ≡ None
not_started None h = refl
not_started (Some row) h = absurd (cc)

behind_begin : (at op : ℕ) → at < 2 ^ 32 → after (Begin at op) ≡ at + 8
behind_begin at op low = mod-eq_of_lt (omega arith)

pub opens : (m : Map) (op begins_behind : ℕ) → AreWithin m.rows → start m.rows op ≡ Some begins_behind
    → (4 ≤ begins_behind) × BeginsAt m op (begins_behind - 4)
opens m op begins_behind within is =
    let row = started (find (begins op) m.rows) begins_behind is in
    let item = found_item (begins op) m.rows row.0 row.1 in
    let begin = begins-true op row.0 item.2 in
    let has : Contains m.rows (Begin begin.0 op) = subst (Contains m.rows) begin.1 (contains_at m.rows item.0 row.0 item.1) in
    let ends = behind_begin begin.0 op (within (Begin begin.0 op) has) in
    let stands : begins_behind ≡ begin.0 + 8 = sym row.2 ∙ ap (λ (r : Row). after r) begin.1 ∙ ends in
    (omega arith, (begin.0, has, omega arith))

pub opens_nowhere : (m : Map) (op : ℕ) → start m.rows op ≡ None → IsOperation m op → ⊥
opens_nowhere m op is operation =
    let found = at_contains m.rows (Begin operation.0 op) operation.1 in
    none_passes (begins op) m.rows found.0 (Begin operation.0 op) (not_started (find (begins op) m.rows) is) found.1
    (begins-itself op operation.0 (Begin operation.0 op) refl)
