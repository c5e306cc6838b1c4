-- The test of an indirect call's target, against what it means.
use Rattle.std.proofs.Common.{◌≡◌, ℕ, true, List, ◌∙◌, ap, eq-eqb, eqb-true}
use Rattle.std.specs.List.{list_any}
use Rattle.std.proofs.lemmas.{Bool.and_parts, Bool.and_from, List.Folds.Any-from_list_any, List.Folds.list_any_at}
use Rattle.oat_map.specs.{declared.map.Function.Function, Rows.IsIndirectTarget, Rows.is_called_at}

pub target_found : (functions : List Function) (params target : ℕ) → list_any (is_called_at params target) functions ≡ true
    → IsIndirectTarget functions params target
target_found functions params target found =
    let (place, function, within, is, passes) = Any-from_list_any (is_called_at params target) functions found in
    let here = and_parts _ _ passes in
    let both = and_parts _ _ here.0 in
    record {
      function = function;
      among = (place, within, is);
      entry = eqb-true _ _ both.0;
      same_params = eqb-true _ _ both.1;
      referenced = here.1;
    }

pub target_listed : (functions : List Function) (params target : ℕ) → IsIndirectTarget functions params target
    → list_any (is_called_at params target) functions ≡ true
target_listed functions params target allowed =
    let passes : is_called_at params target allowed.function ≡ true =
    and_from _ _ (and_from _ _ (eq-eqb _ _ allowed.entry) (eq-eqb _ _ allowed.same_params)) allowed.referenced in
    list_any_at (is_called_at params target) functions allowed.among.0 allowed.function allowed.among.1
    (ap (is_called_at params target) allowed.among.2 ∙ passes)
