-- What two items of a program may not have in common (docs/FORMATS.md, "Program text").
use Rattle.std.specs.{Prelude.ℕ, Prelude.Bool, Prelude.false, Prelude.◌==◌, Prelude.List, Str.bytes_eq}
use Rattle.oat_ir.specs.{declared.program.GlobalItem.GlobalItem, declared.program.GlobalItem.TheVariants.Scalar, declared.program.GlobalItem.TheVariants.FnScalar}
use Rattle.oat_ir.specs.{declared.program.GlobalItem.TheVariants.Array, declared.program.GlobalItem.TheVariants.CriticalArray, declared.func.Func.Func, declared.func.Role.Role}
use Rattle.oat_ir.specs.{declared.func.Role.TheVariants.Operation, declared.func.Local.Local, declared.func.BlockIr.BlockIr}

abbrev pub global_name : GlobalItem → List ℕ
global_name (Scalar name start critical) = name
global_name (FnScalar name params) = name
global_name (Array name len) = name
global_name (CriticalArray name len) = name

abbrev pub are_one_global : GlobalItem → GlobalItem → Bool
are_one_global g h = bytes_eq (global_name g) (global_name h)

abbrev pub have_one_name : Func → Func → Bool
have_one_name f g = bytes_eq f.name g.name

-- two operations have one number
abbrev pub are_one_operation : Role → Role → Bool
are_one_operation (Operation id) (Operation again) = id == again
are_one_operation _ _ = false

abbrev pub have_one_operation : Func → Func → Bool
have_one_operation f g = are_one_operation f.role g.role

abbrev pub are_one_local : Local → Local → Bool
are_one_local x y = bytes_eq x.name y.name

abbrev pub have_one_label : BlockIr → BlockIr → Bool
have_one_label b c = bytes_eq b.label c.label
