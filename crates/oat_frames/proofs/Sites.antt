-- The row over an address is a row of the map, and behind the group of a call there is a return site.
use Rattle.std.proofs.Common.{◌≡◌, ◌+◌, ◌*◌, ◌%◌, ◌^◌, ◌<◌, ℕ, Bool, true, false, cond, List, [], ◌∷◌, Some, Contains, refl, sym, ap, ◌∙◌, arith, eq-eqb}
use Rattle.std.specs.List.{find, list_any}
use Rattle.std.proofs.lemmas.{List.Elements.Contains-append_right, List.Folds.list_any-from_Any}
use Rattle.oat_asm.specs.{Row, is_over, row_over, is_returned_to}
use Rattle.oat_follow.specs.rows as rows

-- what is found is in the list
pub found-contains : (test : Row → Bool) (all : List Row) (r : Row) → find test all ≡ Some r → Contains all r
found-contains test [] r h = absurd (cc)
found-contains test (y ∷ ys) r h = by (λ rest. found-contains test ys r rest) (test y) refl where
  first : (s t : Row) → Some s ≡ Some t → s ≡ t
  first s t e = cc

  by : (find test ys ≡ Some r → Contains ys r) → (t : Bool) → test y ≡ t → Contains (y ∷ ys) r
  by rest true e = (0, omega arith, first y r (sym (ap (λ (t : Bool). cond t (Some y) (find test ys)) e) ∙ h))
  by rest false e = Contains-append_right (y ∷ []) ys r (rest (sym (ap (λ (t : Bool). cond t (Some y) (find test ys)) e) ∙ h))

found-any : (test is : Row → Bool) (all : List Row) (r : Row) → find is all ≡ Some r → test r ≡ true → list_any test all ≡ true
found-any test is all r found passes =
    let has : Contains all r = found-contains is all r found in
    list_any-from_Any test all (has.0, r, has.1, has.2, passes)

pub icall-site : (all : List Row) (p at params to : ℕ) → row_over all p ≡ Some (rows.ICall at params) → at + 4 + 4 ≡ to → to < 2 ^ 64 → list_any (is_returned_to to) all ≡ true
icall-site all p at params to over is small =
    found-any (is_returned_to to) (is_over p) all (rows.ICall at params) over (eq-eqb ((at + 4 * 2) % 2 ^ 64) to (omega arith))

pub call-site : (all : List Row) (p at label to : ℕ) → row_over all p ≡ Some (rows.Call at label) → at + 4 ≡ to → to < 2 ^ 64 → list_any (is_returned_to to) all ≡ true
call-site all p at label to over is small =
    found-any (is_returned_to to) (is_over p) all (rows.Call at label) over (eq-eqb ((at + 4 * 1) % 2 ^ 64) to (omega arith))
