-- Worked programs: an operation that does nothing, and an attested loop.
use Rattle.std.specs.Prelude.{ℕ, pos, true, false, List, [], ◌∷◌, codes, map}
use Rattle.oat_ir.specs.{declared.program.Program.Program, declared.program.GlobalItem.TheVariants.Scalar, declared.func.Func.Func, declared.func.Role.TheVariants.Plain}
use Rattle.oat_ir.specs.{declared.func.Role.TheVariants.Operation, declared.func.Role.TheVariants.Main, declared.func.Ty.TheVariants.I64, declared.func.Local.Local}
use Rattle.oat_ir.specs.{declared.instr.BinOp.TheVariants.Add, declared.instr.BinOp.TheVariants.Mul, declared.instr.BinOp.TheVariants.Lt, declared.instr.Instr.TheVariants.Const}
use Rattle.oat_ir.specs.{declared.instr.Instr.TheVariants.Binary, declared.instr.Instr.TheVariants.Load, declared.instr.Instr.TheVariants.Store, declared.instr.Instr.TheVariants.Call}
use Rattle.oat_ir.specs.{declared.instr.Instr.TheVariants.Input, declared.instr.Instr.TheVariants.Output, declared.instr.Term.TheVariants.Jump, declared.instr.Term.TheVariants.Branch}
use Rattle.oat_ir.specs.{declared.instr.Term.TheVariants.Ret, declared.instr.Term.TheVariants.Halt}

-- locals of numbers
abbrev pub numbers : List (List ℕ) → List Local
numbers names = map (λ name. record { name = name; ty = I64 }) names

-- ---- an operation that does nothing

abbrev pub idle : Func
idle = record {
  name = codes "idle";
  role = Operation 1;
  params = 0;
  locals = numbers (codes "z" ∷ []);
  blocks = record { label = codes "b0"; instrs = []; term = Ret 0 } ∷ [];
}

abbrev pub idle_main : Func
idle_main = record {
  name = codes "main";
  role = Main;
  params = 0;
  locals = numbers (codes "s" ∷ []);
  blocks = record { label = codes "b0"; instrs = Call 0 0 [] ∷ []; term = Halt } ∷ [];
}

abbrev pub idle_program : Program
idle_program = record { globals = []; funcs = idle ∷ idle_main ∷ [] }

-- ---- an attested loop

abbrev pub scale : Func
scale = record {
  name = codes "scale";
  role = Plain;
  params = 1;
  locals = numbers (codes "v" ∷ codes "k" ∷ codes "r" ∷ []);
  blocks = record { label = codes "b0"; instrs = Const 1 (pos 3) ∷ Binary Mul 2 0 1 ∷ []; term = Ret 2 } ∷ [];
}

abbrev pub clip : Func
clip = record {
  name = codes "clip";
  role = Plain;
  params = 1;
  locals = numbers (codes "v" ∷ codes "m" ∷ codes "c" ∷ []);
  blocks =
      record { label = codes "b0"; instrs = Load 1 0 ∷ Binary Lt 2 1 0 ∷ []; term = Branch 2 1 2 }
      ∷ record { label = codes "over"; instrs = []; term = Ret 1 }
      ∷ record { label = codes "under"; instrs = []; term = Ret 0 } ∷ [];
}

abbrev pub measure : Func
measure = record {
  name = codes "measure";
  role = Operation 7;
  params = 1;
  locals = numbers (codes "n" ∷ codes "i" ∷ codes "one" ∷ codes "x" ∷ codes "c" ∷ codes "t" ∷ []);
  blocks =
      record { label = codes "b0"; instrs = Const 2 (pos 1) ∷ []; term = Jump 1 }
      ∷ record { label = codes "test"; instrs = Binary Lt 4 1 0 ∷ []; term = Branch 4 2 3 }
      ∷ record {
        label = codes "body";
        instrs = Input 3 ∷ Call 3 0 (3 ∷ []) ∷ Call 3 1 (3 ∷ []) ∷ Load 5 1 ∷ Binary Add 5 5 3 ∷ Store 1 5 ∷ Output 3 ∷ Binary Add 1 1 2 ∷ [];
        term = Jump 1;
      }
      ∷ record { label = codes "done"; instrs = Load 5 1 ∷ []; term = Ret 5 } ∷ [];
}

abbrev pub loop_main : Func
loop_main = record {
  name = codes "main";
  role = Main;
  params = 0;
  locals = numbers (codes "n" ∷ codes "s" ∷ []);
  blocks = record { label = codes "b0"; instrs = Const 0 (pos 5) ∷ Call 1 2 (0 ∷ []) ∷ Output 1 ∷ []; term = Halt } ∷ [];
}

abbrev pub loop_program : Program
loop_program = record {
  globals = Scalar (codes "limit") (pos 50) true ∷ Scalar (codes "total") (pos 0) false ∷ [];
  funcs = scale ∷ clip ∷ measure ∷ loop_main ∷ [];
}
