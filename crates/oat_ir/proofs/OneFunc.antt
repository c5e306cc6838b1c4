-- Functions that are told apart stand at one place.
use Rattle.std.proofs.Common.{◌≡◌, ℕ, refl, sym, ◌∙◌, subst}
use Rattle.std.specs.Prelude.{slice_get, Some, codes, true}
use Rattle.std.proofs.lemmas.{Bool.eq-eqb, Slice.Eq.bytes_eq-Decides}
use Rattle.oat_ir.specs.{declared.program.Program.Program, declared.func.Func.Func, declared.func.Role.Role, declared.func.Role.TheVariants.Main, declared.func.Role.TheVariants.Operation}
use Rattle.oat_ir.specs.{Distinct.have_one_name, Distinct.have_one_operation, Laws.NameIsOneFunc, Laws.MainIsOneFunc, Laws.OperationIsOneFunc, WellFormed.IsProgram, WellFormed.IsFunc}
use Rattle.oat_ir.specs.{WellFormed.IsRole}
use Rattle.oat_ir.proofs.Places.{one_place, each_at}

pub by_name : NameIsOneFunc
by_name program fits i j f g at again same =
    one_place have_one_name program.funcs i j f g fits.func_names at again ((bytes_eq-Decides f.name g.name).1 same)
    ((bytes_eq-Decides g.name f.name).1 (sym same))

main_name : (program : Program) (i : ℕ) (f : Func) → IsProgram program → slice_get program.funcs i ≡ Some f → f.role ≡ Main
    → f.name ≡ codes "main"
main_name program i f fits at main =
    let role : IsRole Main f = subst (λ (r : Role). IsRole r f) main (each_at (IsFunc program) program.funcs i f fits.funcs at).role in role.0

pub by_main : MainIsOneFunc
by_main program fits i j f g at again one other =
    by_name program fits i j f g at again (main_name program i f fits at one ∙ sym (main_name program j g fits again other))

alike : (f g : Func) (id : ℕ) → f.role ≡ Operation id → g.role ≡ Operation id → have_one_operation f g ≡ true
alike f g id one other = rw (one, other) (eq-eqb id id refl)

pub by_operation : OperationIsOneFunc
by_operation program fits i j id f g at again one other =
    one_place have_one_operation program.funcs i j f g fits.operations at again (alike f g id one other) (alike g f id other one)
