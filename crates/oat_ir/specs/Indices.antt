-- What the operands of an instruction or terminator name (docs/FORMATS.md, "Program text"): an index is below the number
-- of the things of its kind.
use Rattle.std.specs.Prelude.{ℕ, ◌<◌, ◌≤◌, List, length, All}
use Rattle.oat_ir.specs.{declared.program.Program.Program, declared.func.Func.Func, declared.instr.Instr.Instr, declared.instr.Instr.TheVariants.Const, declared.instr.Instr.TheVariants.Copy}
use Rattle.oat_ir.specs.{declared.instr.Instr.TheVariants.Binary, declared.instr.Instr.TheVariants.Load, declared.instr.Instr.TheVariants.Store, declared.instr.Instr.TheVariants.LoadX}
use Rattle.oat_ir.specs.{declared.instr.Instr.TheVariants.StoreX, declared.instr.Instr.TheVariants.RefTo, declared.instr.Instr.TheVariants.Call, declared.instr.Instr.TheVariants.ICall}
use Rattle.oat_ir.specs.{declared.instr.Instr.TheVariants.Input, declared.instr.Instr.TheVariants.Output, declared.instr.Term.Term, declared.instr.Term.TheVariants.Jump}
use Rattle.oat_ir.specs.{declared.instr.Term.TheVariants.Branch, declared.instr.Term.TheVariants.Ret, declared.instr.Term.TheVariants.Halt}

abbrev pub HasGlobal : Program → ℕ → Type 0
HasGlobal program global = global < length program.globals

abbrev pub HasFunc : Program → ℕ → Type 0
HasFunc program func = func < length program.funcs

abbrev pub HasLocal : Func → ℕ → Type 0
HasLocal func x = x < length func.locals

abbrev pub HasBlock : Func → ℕ → Type 0
HasBlock func block = block < length func.blocks

-- at most four locals
abbrev pub AreArguments : Func → List ℕ → Type 0
AreArguments func args = (length args ≤ 4) × All (HasLocal func) args

-- an instruction of this function
abbrev pub IsInstr : Program → Func → Instr → Type 0
IsInstr program func (Const x value) = HasLocal func x
IsInstr program func (Copy x y) = HasLocal func x × HasLocal func y
IsInstr program func (Binary op x y z) = HasLocal func x × HasLocal func y × HasLocal func z
IsInstr program func (Load x global) = HasLocal func x × HasGlobal program global
IsInstr program func (Store global x) = HasGlobal program global × HasLocal func x
IsInstr program func (LoadX x array i) = HasLocal func x × HasGlobal program array × HasLocal func i
IsInstr program func (StoreX array i x) = HasGlobal program array × HasLocal func i × HasLocal func x
IsInstr program func (RefTo x callee) = HasLocal func x × HasFunc program callee
IsInstr program func (Call x callee args) = HasLocal func x × HasFunc program callee × AreArguments func args
IsInstr program func (ICall x y args) = HasLocal func x × HasLocal func y × AreArguments func args
IsInstr program func (Input x) = HasLocal func x
IsInstr program func (Output x) = HasLocal func x

-- a terminator of this function
abbrev pub IsTerm : Func → Term → Type 0
IsTerm func (Jump to) = HasBlock func to
IsTerm func (Branch x first second) = HasLocal func x × HasBlock func first × HasBlock func second
IsTerm func (Ret x) = HasLocal func x
IsTerm func Halt = Unit {0}
