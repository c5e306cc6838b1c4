-- The test of an indirect target fails where none is allowed.
use Rattle.std.proofs.Common.{◌≡◌, ℕ, Bool, true, false, eqb-true, List, refl}
use Rattle.std.specs.List.{list_any}
use Rattle.std.proofs.lemmas.{Bool.and_parts, List.Folds.Any-from_list_any}
use Rattle.oat_attest.specs.{Function, IsIndirectTarget, is_called_at}

pub no-target : (functions : List Function) (params to : ℕ) → (IsIndirectTarget functions params to → ⊥) → list_any (is_called_at params to) functions ≡ false
no-target functions params to none = by (list_any (is_called_at params to) functions) refl where
  by : (b : Bool) → list_any (is_called_at params to) functions ≡ b → b ≡ false
  by false is = refl
  by true is =
      let (place, function, within, there, passes) = Any-from_list_any (is_called_at params to) functions is in
      let here = and_parts _ _ passes in
      let both = and_parts _ _ here.0 in
      absurd (none (record { function = function; among = (place, within, there); entry = eqb-true _ _ both.0; same_params = eqb-true _ _ both.1; referenced = here.1 }))
