-- What the definition of a well-formed program says besides (docs/FORMATS.md, "Program text").
use Rattle.std.specs.Prelude.{ℕ, ◌≡◌, slice_get, Some}
use Rattle.oat_ir.specs.{declared.program.Program.Program, declared.func.Func.Func, declared.func.Role.TheVariants.Main, declared.func.Role.TheVariants.Operation, WellFormed.IsProgram}

-- functions of one name are one function
abbrev pub NameIsOneFunc : Type 0
NameIsOneFunc = (program : Program) → IsProgram program → (i j : ℕ) (f g : Func)
    → slice_get program.funcs i ≡ Some f → slice_get program.funcs j ≡ Some g → f.name ≡ g.name → i ≡ j

-- at most one function is the main one
abbrev pub MainIsOneFunc : Type 0
MainIsOneFunc = (program : Program) → IsProgram program → (i j : ℕ) (f g : Func)
    → slice_get program.funcs i ≡ Some f → slice_get program.funcs j ≡ Some g → f.role ≡ Main → g.role ≡ Main → i ≡ j

-- operations of one number are one function
abbrev pub OperationIsOneFunc : Type 0
OperationIsOneFunc = (program : Program) → IsProgram program → (i j id : ℕ) (f g : Func)
    → slice_get program.funcs i ≡ Some f → slice_get program.funcs j ≡ Some g → f.role ≡ Operation id → g.role ≡ Operation id → i ≡ j
