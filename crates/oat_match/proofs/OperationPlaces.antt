-- An operation's number tells its function.
use Rattle.std.proofs.Common.{◌≡◌, ◌<◌, ℕ, zero, suc, Bool, true, false, List, [], ◌∷◌, length, get_or, Option, Some, None, refl, sym, ap, subst, ◌∙◌, arith, eqb-true, eq-eqb}
use Rattle.std.specs.{Prelude.slice_get, Option.option_and_then, List.IsDistinct}
use Rattle.std.proofs.lemmas.{Bool.both_ways, Option.get_or_from_slice_get, Option.slice_get_within, Map.Keys.IsDistinct-head, Map.Keys.IsDistinct-tail, List.Sums.position_or_len_is}
use Rattle.oat_parts.proofs.Lists.{all_get}
use Rattle.oat_check.proofs.Frames.{There, there}
use Rattle.oat_globals.specs.{Program, Func, Role, Main, Operation, Plain, are_one_operation, have_one_operation, IsChecked, is_operation_of, operation_number, operation_of}
use Rattle.oat_match.specs.Placed.{function_of_operation}

is_it : (r : Role) (op : ℕ) → operation_number r ≡ Some op → is_operation_of op r ≡ true
is_it (Operation id) op h = eq-eqb id op (cc)
is_it Plain op h = absurd (cc)
is_it Main op h = absurd (cc)

are_one : (a b : Role) (op : ℕ) → is_operation_of op a ≡ true → is_operation_of op b ≡ true → are_one_operation a b ≡ true
are_one (Operation id) (Operation again) op h k = eq-eqb id again (eqb-true id op h ∙ sym (eqb-true again op k))
are_one (Operation id) Plain op h k = absurd (cc)
are_one (Operation id) Main op h k = absurd (cc)
are_one Plain b op h k = absurd (cc)
are_one Main b op h k = absurd (cc)

-- of two functions with one number neither stands before the other
no_earlier : (fs : List Func) (op j k : ℕ) (f g : Func) → IsDistinct have_one_operation fs → j < k → slice_get fs j ≡ Some f → slice_get fs k ≡ Some g
    → is_operation_of op f.role ≡ true → is_operation_of op g.role ≡ true → ⊥
no_earlier [] op j k f g d l at also h i = absurd (cc)
no_earlier (x ∷ xs) op zero (suc k) f g d l at also h i =
    let e : x ≡ f = cc in
    let one : have_one_operation x g ≡ true = are_one x.role g.role op (subst (λ (y : Func). is_operation_of op y.role ≡ true) (sym e) h) i in
    both_ways _ (all_get (λ y. have_one_operation x y ≡ false) xs k g (IsDistinct-head have_one_operation x xs d) also) one
no_earlier (x ∷ xs) op (suc j) (suc k) f g d l at also h i = no_earlier xs op j k f g (IsDistinct-tail have_one_operation x xs d) (omega arith) at also h i
no_earlier (x ∷ xs) op j zero f g d l at also h i = absurd (omega arith)

pub operation_place : (p : Program) → IsChecked p → (g op : ℕ) → operation_of p g ≡ Some op → function_of_operation p op ≡ g
operation_place p ok g op at = by (slice_get p.funcs g) refl at where
  test : Func → Bool
  test f = is_operation_of op f.role

  by : (o : Option Func) → slice_get p.funcs g ≡ o → option_and_then (λ func. operation_number func.role) o ≡ Some op → function_of_operation p op ≡ g
  by None is h = absurd (cc)
  by (Some func) is h =
      let this : is_operation_of op func.role ≡ true = is_it func.role op h in
      let inside : g < length p.funcs = slice_get_within p.funcs g func is in
      position_or_len_is (λ f. is_operation_of op f.role) p.funcs g func (omega arith)
      (λ k l. earlier k l (is_operation_of op (get_or p.funcs k func).role) refl)
      (λ l. ap (λ (f : Func). is_operation_of op f.role) (get_or_from_slice_get p.funcs g func func is) ∙ this) where
        earlier : (k : ℕ) → k < g → (t : Bool) → is_operation_of op (get_or p.funcs k func).role ≡ t → t ≡ false
        earlier k l false e = refl
        earlier k l true e =
            let low : g < length p.funcs = slice_get_within p.funcs g func is in
            let q : There p.funcs k = there p.funcs k (omega arith) in
            let same : get_or p.funcs k func ≡ q.item = get_or_from_slice_get p.funcs k q.item func q.is in
            absurd (no_earlier p.funcs op k g q.item func ok.well_formed.operations l q.is is (sym (ap (λ (f : Func). is_operation_of op f.role) same) ∙ e) (is_it func.role op h))
