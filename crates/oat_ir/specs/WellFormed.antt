-- Which values of the program types are programs (docs/FORMATS.md, "Program text"): indices name something, names are
-- told apart, and numbers are in their ranges. What the checking rules ask besides is not part of it.
use Rattle.std.specs.{Prelude.◌≡◌, Prelude.◌≤◌, Prelude.length, Prelude.codes, Prelude.All, List.IsDistinct}
use Rattle.oat_ir.specs.{declared.program.Program.Program, declared.program.GlobalItem.GlobalItem, declared.program.GlobalItem.TheVariants.Scalar, declared.program.GlobalItem.TheVariants.FnScalar}
use Rattle.oat_ir.specs.{declared.program.GlobalItem.TheVariants.Array, declared.program.GlobalItem.TheVariants.CriticalArray, declared.func.Func.Func, declared.func.Role.Role}
use Rattle.oat_ir.specs.{declared.func.Role.TheVariants.Plain, declared.func.Role.TheVariants.Operation, declared.func.Role.TheVariants.Main, declared.func.Ty.Ty, declared.func.Ty.TheVariants.I64}
use Rattle.oat_ir.specs.{declared.func.Ty.TheVariants.Fn, declared.func.Local.Local, declared.func.BlockIr.BlockIr, Distinct.are_one_global, Distinct.have_one_name, Distinct.have_one_operation}
use Rattle.oat_ir.specs.{Distinct.are_one_local, Distinct.have_one_label, Indices.IsInstr, Indices.IsTerm, Size.program_size}

-- the numbers of a global are in their ranges
abbrev pub IsGlobal : GlobalItem → Type 0
IsGlobal (Scalar name start critical) = Unit {0}
IsGlobal (FnScalar name params) = params ≤ 4
IsGlobal (Array name len) = (1 ≤ len) × (len ≤ 65536)
IsGlobal (CriticalArray name len) = (1 ≤ len) × (len ≤ 4096)

abbrev pub IsTy : Ty → Type 0
IsTy I64 = Unit {0}
IsTy (Fn params) = params ≤ 4

abbrev pub IsLocal : Local → Type 0
IsLocal local = IsTy local.ty

-- An operation has a number from 1 on. The function where the program starts is named so, and has no parameters.
abbrev pub IsRole : Role → Func → Type 0
IsRole Plain func = Unit {0}
IsRole (Operation id) func = (1 ≤ id) × (id ≤ 65535)
IsRole Main func = (func.name ≡ codes "main") × (func.params ≡ 0)

-- the indices of a block of this function name something
abbrev pub IsBlockIr : Program → Func → BlockIr → Type 0
IsBlockIr program func block = All (IsInstr program func) block.instrs × IsTerm func block.term

pub record IsFunc (program : Program) (func : Func) : Type 0 where
  pub role : IsRole func.role func
  pub few_params : func.params ≤ 4
  pub params_first : func.params ≤ length func.locals
  pub locals : All IsLocal func.locals
  pub local_names : IsDistinct are_one_local func.locals
  pub begun : 1 ≤ length func.blocks
  pub labels : IsDistinct have_one_label func.blocks
  pub blocks : All (IsBlockIr program func) func.blocks

pub record IsProgram (program : Program) : Type 0 where
  pub globals : All IsGlobal program.globals
  pub global_names : IsDistinct are_one_global program.globals
  pub funcs : All (IsFunc program) program.funcs
  pub func_names : IsDistinct have_one_name program.funcs
  pub operations : IsDistinct have_one_operation program.funcs
  pub size : program_size program ≤ 67108864
