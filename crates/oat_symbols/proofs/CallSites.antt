-- In an image with the shape a return site is named by its call.
use Rattle.std.proofs.Common.{◌≡◌, ◌+◌, ◌-◌, ◌*◌, ◌≤◌, List, [], ◌∷◌, refl, sym, ap, ◌∙◌, Bool, true, false, Option, Some, arith, inl, inr, eqb, eqb-true, eq-eqb}
use Rattle.std.specs.{Prelude.Contains, Prelude.find, Option.option_map, Option.unwrap_or}
use Rattle.std.proofs.lemmas.Bool.{and_from, and_parts, true≢false}
use Rattle.oat_shape.proofs.Laid.{laid}
use Rattle.oat_parts.specs.{Row, address_of, word_count, after, is_call, is_returned_to, row_over, site, IsLaid}
use Rattle.oat_parts.proofs.Lists.{not_in_none, first_in, later_in, cons_cases}
use Rattle.oat_symbols.specs.Names.{CallSitesAreFound}
use Rattle.oat_symbols.proofs.Finding.{find_step}

-- the only element that passes is found
find_only : {A : Type 0} (test : A → Bool) (xs : List A) (x : A) → Contains xs x → test x ≡ true → ((y : A) → Contains xs y → test y ≡ true → y ≡ x) → find test xs ≡ Some x
find_only test [] x has passes only = absurd (not_in_none x has)
find_only test (y ∷ ys) x has passes only = by (test y) refl (λ later. find_only test ys x later passes (λ z there. only z (later_in y ys z there))) where
  by : (b : Bool) → test y ≡ b → (Contains ys x → find test ys ≡ Some x) → find test (y ∷ ys) ≡ Some x
  by true e rest = find_step test y ys true e ∙ ap Some (only y (first_in y ys) e)
  by false e rest =
      elim (cons_cases y ys x has) [
        | inl same ↦ absurd (true≢false (sym passes ∙ sym (ap test same) ∙ e))
        | inr later ↦ find_step test y ys false e ∙ rest later
      ]

some_words : (row : Row) → 1 ≤ word_count row
some_words row = grind arith

pub call_sites_are_found : CallSitesAreFound
call_sites_are_found i row formed shaped has called =
    let l : IsLaid i = laid i formed shaped in
    let one = l.low row has in
    let found = find_only (is_returned_to (after row)) i.map.rows row has (and_from (is_call row) (eqb (after row) (after row)) called (eq-eqb (after row) (after row) refl)) (λ other there passes.
    let two = l.low other there in
    let same = eqb-true (after other) (after row) (and_parts (is_call other) (eqb (after other) (after row)) passes).1 in
    let p = address_of row + 4 * word_count row - 1 in
    let some = some_words row in
    let more = some_words other in
    let a = one.2 in
    let b = two.2 in
    let first : row_over i.map.rows p ≡ Some row = l.over row p has (omega arith, omega arith) in
    let second : row_over i.map.rows p ≡ Some other = l.over other p there (omega arith, omega arith) in
    let equal : Some other ≡ Some row = sym second ∙ first in
    cc) in
    ap (λ (o : Option Row). site i.map (unwrap_or (option_map address_of o) (after row))) found
