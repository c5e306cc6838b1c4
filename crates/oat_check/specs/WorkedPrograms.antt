-- Further worked programs: two calls of an operation, elements of a critical array, deep calls, and one line that may break a rule.
use Rattle.std.specs.Prelude.{ℕ, List, [], ◌∷◌, pos, codes, false}
use Rattle.oat_ir.specs.{declared.program.Program.Program, declared.program.GlobalItem.TheVariants.Scalar, declared.program.GlobalItem.TheVariants.FnScalar}
use Rattle.oat_ir.specs.{declared.program.GlobalItem.TheVariants.CriticalArray, declared.func.Func.Func, declared.func.Role.Role, declared.func.Role.TheVariants.Plain}
use Rattle.oat_ir.specs.{declared.func.Role.TheVariants.Operation, declared.func.Role.TheVariants.Main, declared.func.Ty.TheVariants.I64, declared.func.Ty.TheVariants.Fn}
use Rattle.oat_ir.specs.{declared.func.BlockIr.BlockIr, declared.instr.BinOp.TheVariants.Add, declared.instr.BinOp.TheVariants.Sub, declared.instr.Instr.Instr, declared.instr.Instr.TheVariants.Const}
use Rattle.oat_ir.specs.{declared.instr.Instr.TheVariants.Binary, declared.instr.Instr.TheVariants.LoadX, declared.instr.Instr.TheVariants.StoreX, declared.instr.Instr.TheVariants.Call}
use Rattle.oat_ir.specs.{declared.instr.Instr.TheVariants.Output, declared.instr.Term.Term, declared.instr.Term.TheVariants.Jump, declared.instr.Term.TheVariants.Branch}
use Rattle.oat_ir.specs.{declared.instr.Term.TheVariants.Ret, declared.instr.Term.TheVariants.Halt, WorkedPrograms.numbers, WorkedPrograms.idle}

abbrev pub code_block : List ℕ → List Instr → Term → BlockIr
code_block label instrs term = record { label = label; instrs = instrs; term = term }

-- a function whose locals are numbers
abbrev pub number_func : List ℕ → Role → ℕ → List (List ℕ) → List BlockIr → Func
number_func name role params names blocks = record { name = name; role = role; params = params; locals = numbers names; blocks = blocks }

abbrev pub main_func : List (List ℕ) → List Instr → Func
main_func names instrs = number_func (codes "main") Main 0 names (code_block (codes "b0") instrs Halt ∷ [])

abbrev pub idle_twice : Program
idle_twice = record { globals = []; funcs = idle ∷ main_func (codes "s" ∷ []) (Call 0 0 [] ∷ Call 0 0 [] ∷ []) ∷ [] }

-- one element is set and read, another read, and one past the end read in main
abbrev pub element_program : Program
element_program = record {
  globals = CriticalArray (codes "lim") 3 ∷ [];
  funcs =
      number_func (codes "work") (Operation 1) 1 (codes "n" ∷ codes "k" ∷ codes "v" ∷ [])
      (code_block (codes "b0") (Const 1 (pos 2) ∷ Const 2 (pos 9) ∷ StoreX 0 1 2 ∷ LoadX 2 0 1 ∷ Output 2 ∷ LoadX 2 0 0 ∷ []) (Ret 2) ∷ [])
      ∷ main_func (codes "n" ∷ codes "s" ∷ []) (Call 1 0 (0 ∷ []) ∷ Output 1 ∷ Const 0 (pos 3) ∷ LoadX 1 0 0 ∷ []) ∷ [];
}

-- a function that calls itself until n calls are active
abbrev pub deep_program : ℕ → Program
deep_program n = record {
  globals = [];
  funcs =
      number_func (codes "down") Plain 1 (codes "n" ∷ codes "one" ∷ codes "r" ∷ [])
      (code_block (codes "b0") (Const 1 (pos 1) ∷ Binary Sub 0 0 1 ∷ []) (Branch 0 1 2)
      ∷ code_block (codes "more") (Call 2 0 (0 ∷ []) ∷ Binary Add 2 2 1 ∷ []) (Ret 2)
      ∷ code_block (codes "stop") [] (Ret 1) ∷ [])
      ∷ main_func (codes "n" ∷ codes "s" ∷ []) (Const 0 (pos n) ∷ Call 1 0 (0 ∷ []) ∷ Output 1 ∷ []) ∷ [];
}

-- a function with a reference as its parameter
abbrev pub referring : Func
referring = record {
  name = codes "refers";
  role = Plain;
  params = 1;
  locals = record { name = codes "f"; ty = Fn 0 } ∷ record { name = codes "z"; ty = I64 } ∷ [];
  blocks = code_block (codes "b0") [] (Ret 1) ∷ [];
}

-- Main (function 3) has this instruction and this terminator; beside it are an operation, a function of two numbers and one of a reference.
abbrev pub line_program : Instr → Term → Program
line_program i t = record {
  globals = Scalar (codes "g") (pos 0) false ∷ CriticalArray (codes "a") 2 ∷ FnScalar (codes "r") 2 ∷ [];
  funcs = idle ∷ number_func (codes "two") Plain 2 (codes "x" ∷ codes "y" ∷ []) (code_block (codes "b0") [] (Ret 0) ∷ []) ∷ referring
      ∷ record {
        name = codes "main";
        role = Main;
        params = 0;
        locals = record { name = codes "x"; ty = I64 } ∷ record { name = codes "f"; ty = Fn 0 } ∷ record { name = codes "h"; ty = Fn 2 } ∷ [];
        blocks = code_block (codes "b0") [] (Jump 1) ∷ code_block (codes "b1") (Const 0 (pos 1) ∷ i ∷ []) t ∷ [];
      } ∷ [];
}
