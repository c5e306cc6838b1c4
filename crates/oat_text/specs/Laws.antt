-- The texts of programs, what is printed for a program, and what is read (docs/FORMATS.md, "Program text").
use Rattle.std.specs.{Prelude.ℕ, Prelude.◌≡◌, Prelude.◌≤◌, Prelude.◌⊎◌, Prelude.List, Prelude.length, Prelude.Ok, Prelude.Err, Prelude.IsTrue, List.All}
use Rattle.oat_lines.specs.{declared.fault.Fault.Fault, Integer.is_i64}
use Rattle.oat_ir.specs.{IsName, declared.program.Program.Program, declared.program.GlobalItem.GlobalItem, declared.program.GlobalItem.TheVariants.Scalar}
use Rattle.oat_ir.specs.{declared.program.GlobalItem.TheVariants.FnScalar, declared.program.GlobalItem.TheVariants.Array, declared.program.GlobalItem.TheVariants.CriticalArray}
use Rattle.oat_ir.specs.{declared.func.Func.Func, declared.func.BlockIr.BlockIr, declared.instr.Instr.Instr, declared.instr.Instr.TheVariants.Const, WellFormed.IsProgram}
use Rattle.oat_text.specs.{declared.fault.TextFaultKind.TextFaultKind, Grammar.IsProgramText, Grammar.program_text, Bodies.program_of}

-- ---- what values of the Rust types have, and lists of numbers needn't: names are names, and numbers have 64 bits

abbrev pub HasGlobalValues : GlobalItem → Type 0
HasGlobalValues (Scalar name start critical) = IsName name × IsTrue (is_i64 start)
HasGlobalValues (FnScalar name params) = IsName name
HasGlobalValues (Array name len) = IsName name
HasGlobalValues (CriticalArray name len) = IsName name

abbrev pub HasConstant : Instr → Type 0
HasConstant (Const x value) = IsTrue (is_i64 value)
HasConstant _ = Unit {0}

pub record HasBlockValues (block : BlockIr) : Type 0 where
  pub label : IsName block.label
  pub instrs : All HasConstant block.instrs

pub record HasFuncValues (func : Func) : Type 0 where
  pub name : IsName func.name
  pub locals : All (λ local. IsName local.name) func.locals
  pub blocks : All HasBlockValues func.blocks

pub record HasValues (program : Program) : Type 0 where
  pub globals : All HasGlobalValues program.globals
  pub funcs : All HasFuncValues program.funcs

-- ---- the laws

abbrev pub PrintedIsText : Type 0
PrintedIsText = (program : Program) → IsProgram program → HasValues program → IsProgramText (program_text program) program

-- a text of a program is read, and gives the program
abbrev pub TextIsRead : Type 0
TextIsRead = (text : List ℕ) (program : Program) → IsProgramText text program → program_of text ≡ Ok program

-- what is printed for a program is read, and gives the program back
abbrev pub PrintedIsRead : Type 0
PrintedIsRead = (program : Program) → IsProgram program → HasValues program → program_of (program_text program) ≡ Ok program

-- the length keeps the program within its size
abbrev pub ReadIsText : Type 0
ReadIsText = (text : List ℕ) (program : Program) → length text ≤ 1048576 → program_of text ≡ Ok program → IsProgramText text program

-- a text stands for one program
abbrev pub OneProgram : Type 0
OneProgram = (text : List ℕ) (p q : Program) → IsProgramText text p → IsProgramText text q → p ≡ q

-- a text stands for a program, or it has a first fault and stands for none
abbrev pub ProgramOrFault : Type 0
ProgramOrFault =
    (text : List ℕ) → length text ≤ 1048576
    → ((program : Program) × IsProgramText text program)
    ⊎ ((fault : Fault TextFaultKind) × (program_of text ≡ Err fault) × ((program : Program) → ¬ IsProgramText text program))
