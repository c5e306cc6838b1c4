-- The definitions computed on the worked programs: what their runs show, and which rules they break.
use Rattle.std.specs.Prelude.{◌≡◌, ℕ, ◌-◌, ◌^◌, Bool, true, false, List, [], ◌∷◌, ◌++◌, map, Option, Some, None, ℤ, pos, codes}
use Rattle.oat_events.specs.{EdgeName, PlaceName, Site, Index, Depth, Source.Finish, Source.halted, Source.trapped, Source.CellValue, Source.path_of_call, Source.loads_of_call, Source.outputs_of}
use Rattle.oat_events.specs.{Source.calls_done, Source.has_completed, Source.stores_up_to_call}
use Rattle.oat_ir.specs.{declared.program.Program.Program, declared.program.GlobalItem.TheVariants.Scalar, declared.program.GlobalItem.TheVariants.Array, declared.func.Role.TheVariants.Plain}
use Rattle.oat_ir.specs.{declared.func.Role.TheVariants.Operation, declared.instr.BinOp.BinOp, declared.instr.BinOp.TheVariants.Add, declared.instr.BinOp.TheVariants.Sub}
use Rattle.oat_ir.specs.{declared.instr.BinOp.TheVariants.Mul, declared.instr.BinOp.TheVariants.And, declared.instr.BinOp.TheVariants.Or, declared.instr.BinOp.TheVariants.Xor}
use Rattle.oat_ir.specs.{declared.instr.BinOp.TheVariants.Shl, declared.instr.BinOp.TheVariants.Shr, declared.instr.BinOp.TheVariants.Sar, declared.instr.BinOp.TheVariants.Eq}
use Rattle.oat_ir.specs.{declared.instr.BinOp.TheVariants.Ne, declared.instr.BinOp.TheVariants.Lt, declared.instr.BinOp.TheVariants.Le, declared.instr.BinOp.TheVariants.Ltu}
use Rattle.oat_ir.specs.{declared.instr.BinOp.TheVariants.Leu, declared.instr.BinOp.TheVariants.Div, declared.instr.BinOp.TheVariants.Rem, declared.instr.BinOp.TheVariants.Divu}
use Rattle.oat_ir.specs.{declared.instr.BinOp.TheVariants.Remu, declared.instr.Instr.Instr, declared.instr.Instr.TheVariants.Const, declared.instr.Instr.TheVariants.Copy}
use Rattle.oat_ir.specs.{declared.instr.Instr.TheVariants.Load, declared.instr.Instr.TheVariants.Store, declared.instr.Instr.TheVariants.LoadX, declared.instr.Instr.TheVariants.StoreX}
use Rattle.oat_ir.specs.{declared.instr.Instr.TheVariants.RefTo, declared.instr.Instr.TheVariants.Call, declared.instr.Instr.TheVariants.ICall, declared.instr.Instr.TheVariants.Output}
use Rattle.oat_ir.specs.{declared.instr.Term.TheVariants.Ret, declared.instr.Term.TheVariants.Halt, WorkedPrograms.idle_program, WorkedPrograms.loop_program}
use Rattle.oat_check.specs.{declared.fault.CheckKind.CheckKind, declared.fault.CheckKind.TheVariants.NoMain, declared.fault.CheckKind.TheVariants.GlobalWords}
use Rattle.oat_check.specs.{declared.fault.CheckKind.TheVariants.NoEnd, declared.fault.CheckKind.TheVariants.CallsMain, declared.fault.CheckKind.TheVariants.OperationCall}
use Rattle.oat_check.specs.{declared.fault.CheckKind.TheVariants.RefKind, declared.fault.CheckKind.TheVariants.Arity, declared.fault.CheckKind.TheVariants.Kind}
use Rattle.oat_check.specs.{declared.fault.CheckKind.TheVariants.MainRet, declared.fault.CheckFault.TheVariants.At, Naming.line_edge_name, Operators.result_of, Rules.first_fault, Runs.source_of}
use Rattle.oat_check.specs.{Runs.source_run, Runs.source_events, WorkedPrograms.idle_twice, WorkedPrograms.element_program, WorkedPrograms.deep_program, WorkedPrograms.line_program}
use Rattle.oat_check.specs.{WorkedPrograms.number_func, WorkedPrograms.code_block}
use Rattle.oat_events.specs.name as name

abbrev pub names_of_call : Program → List ℤ → ℕ → ℕ → ℕ → List EdgeName
names_of_call p inputs n op s = map (line_edge_name p) (path_of_call (source_of p inputs) op s (source_events p inputs n))

-- what is said of a run: its end and outputs, and the path, loads and stores of the first call of an operation
pub record IsWorkedRun (p : Program) (inputs : List ℤ) (n op : ℕ) (end : Finish) (outputs : List ℤ) (path : List EdgeName) (loads stores : List CellValue) : Type 0 where
  pub checked : first_fault p ≡ None
  pub ended : (source_run p inputs n).end ≡ Some end
  pub outputs_are : outputs_of (source_events p inputs n) ≡ outputs
  pub once : calls_done op (source_events p inputs n) ≡ 1
  pub completed : has_completed op 0 (source_events p inputs n) ≡ true
  pub names : names_of_call p inputs n op 0 ≡ path
  pub loaded : loads_of_call op 0 (source_events p inputs n) ≡ loads
  pub stored : stores_up_to_call op 0 (source_events p inputs n) ≡ stores

-- ---- one call and two calls of an operation that does nothing

abbrev pub IdleIsShown : Type 0
IdleIsShown = IsWorkedRun idle_program [] 3 1 halted [] (name.finish 1 ∷ []) [] []

pub record TwoCallsAreShown : Type 0 where
  pub twice : calls_done 1 (source_events idle_twice [] 5) ≡ 2
  pub not_so_soon : has_completed 1 1 (source_events idle_twice [] 3) ≡ false
  pub second : has_completed 1 1 (source_events idle_twice [] 5) ≡ true
  pub no_third : has_completed 1 2 (source_events idle_twice [] 5) ≡ false
  pub first_path : names_of_call idle_twice [] 5 1 0 ≡ name.finish 1 ∷ []
  pub second_path : names_of_call idle_twice [] 5 1 1 ≡ name.finish 1 ∷ []
  pub ended : (source_run idle_twice [] 5).end ≡ Some halted

-- ---- elements of a critical array

abbrev pub cell_value : ℕ → ℕ → CellValue
cell_value c value = record { cell = c; value = value }

abbrev pub ElementsAreShown : Type 0
ElementsAreShown =
    IsWorkedRun element_program [] 11 1 (trapped Index) (pos 9 ∷ pos 0 ∷ []) (name.finish 1 ∷ [])
    (cell_value 2 9 ∷ cell_value 0 0 ∷ []) (cell_value 2 9 ∷ [])

-- ---- the attested loop

abbrev pub block_place : List ℕ → List ℕ → Option PlaceName
block_place function block = Some (record { function = function; block = Some block })

abbrev pub block_site : List ℕ → List ℕ → ℕ → Site
block_site function block number = record { place = block_place function block; number = number }

abbrev pub func_place : List ℕ → Option PlaceName
func_place function = Some (record { function = function; block = None })

-- the edges of one round, by whether the number is clipped, which leads to this block
abbrev pub round_path : Bool → List ℕ → List EdgeName
round_path clipped to =
    name.branch (block_site (codes "measure") (codes "test") 0) true (block_place (codes "measure") (codes "body"))
    ∷ name.call (block_site (codes "measure") (codes "body") 0) (func_place (codes "scale"))
    ∷ name.return (block_site (codes "scale") (codes "b0") 0) (block_site (codes "measure") (codes "body") 0)
    ∷ name.call (block_site (codes "measure") (codes "body") 1) (func_place (codes "clip"))
    ∷ name.branch (block_site (codes "clip") (codes "b0") 0) clipped (block_place (codes "clip") to)
    ∷ name.return (block_site (codes "clip") to 0) (block_site (codes "measure") (codes "body") 1)
    ∷ name.jump (block_site (codes "measure") (codes "body") 2) (block_place (codes "measure") (codes "test")) ∷ []

abbrev pub loop_path : List EdgeName
loop_path =
    (name.jump (block_site (codes "measure") (codes "b0") 0) (block_place (codes "measure") (codes "test")) ∷ [])
    ++ round_path false (codes "under") ++ round_path true (codes "over") ++ round_path false (codes "under") ++ round_path true (codes "over")
    ++ round_path false (codes "under")
    ++ (name.branch (block_site (codes "measure") (codes "test") 0) false (block_place (codes "measure") (codes "done")) ∷ name.finish 7 ∷ [])

abbrev pub AttestedLoopIsShown : Type 0
AttestedLoopIsShown =
    IsWorkedRun loop_program (pos 10 ∷ pos 20 ∷ pos 16 ∷ pos 17 ∷ pos 0 ∷ []) 100 7 halted
    (pos 30 ∷ pos 50 ∷ pos 48 ∷ pos 50 ∷ pos 0 ∷ pos 178 ∷ []) loop_path
    (cell_value 0 50 ∷ cell_value 0 50 ∷ cell_value 0 50 ∷ cell_value 0 50 ∷ cell_value 0 50 ∷ []) []

-- ---- deep calls

pub record DeepCallsAreShown : Type 0 where
  pub checked : first_fault (deep_program 256) ≡ None
  pub most_end : (source_run (deep_program 256) [] 2000).end ≡ Some halted
  pub most_put : outputs_of (source_events (deep_program 256) [] 2000) ≡ pos 256 ∷ []
  pub more_end : (source_run (deep_program 257) [] 2000).end ≡ Some (trapped Depth)
  pub more_put : outputs_of (source_events (deep_program 257) [] 2000) ≡ []

-- ---- operations on numbers

abbrev pub least : ℕ
least = 2 ^ 63

abbrev pub minus : ℕ → ℕ
minus n = 2 ^ 64 - n

abbrev pub makes_of : BinOp → ℕ → ℕ → ℕ → Type 0
makes_of op a b v = result_of op a b ≡ Some v

abbrev pub OperationsAreAsSaid : Type 0
OperationsAreAsSaid =
    makes_of Add (minus 1) 1 0 × makes_of Sub 0 1 (minus 1) × makes_of Mul (2 ^ 63) 2 0
    × makes_of And 12 10 8 × makes_of Or 12 10 14 × makes_of Xor 12 10 6
    × makes_of Shl 5 64 5 × makes_of Shl 5 65 10 × makes_of Shr (minus 8) 1 (2 ^ 63 - 4) × makes_of Sar (minus 8) 1 (minus 4) × makes_of Sar (minus 1) 63 (minus 1)
    × makes_of Eq 3 3 1 × makes_of Ne 3 3 0 × makes_of Lt (minus 1) 0 1 × makes_of Lt 3 3 0 × makes_of Le 3 3 1 × makes_of Le 0 (minus 1) 0
    × makes_of Ltu (minus 1) 0 0 × makes_of Ltu 0 (minus 1) 1 × makes_of Leu 3 3 1
    × makes_of Div least (minus 1) least × makes_of Rem least (minus 1) 0 × makes_of Div (minus 7) 2 (minus 3) × makes_of Rem (minus 7) 2 (minus 1)
    × makes_of Div 7 (minus 2) (minus 3) × makes_of Rem 7 (minus 2) 1 × makes_of Divu (minus 1) 2 (2 ^ 63 - 1) × makes_of Remu (minus 1) 2 1
    × (result_of Div 7 0 ≡ None) × (result_of Rem 7 0 ≡ None) × (result_of Divu 7 0 ≡ None) × (result_of Remu 7 0 ≡ None)

-- ---- rules

abbrev pub breaks_by : Instr → CheckKind → Type 0
breaks_by i kind = first_fault (line_program i Halt) ≡ Some (At kind 3 1 1)

abbrev pub keeps_by : Instr → Type 0
keeps_by i = first_fault (line_program i Halt) ≡ None

pub record RulesAreTried : Type 0 where
  pub calls : breaks_by (Call 0 3 (0 ∷ [])) CallsMain
  pub references : breaks_by (RefTo 0 3) RefKind × breaks_by (RefTo 1 0) RefKind × breaks_by (RefTo 1 2) RefKind
  pub counts : breaks_by (Call 1 1 (0 ∷ [])) Arity × breaks_by (ICall 1 2 (0 ∷ [])) Arity
  pub call_types :
      breaks_by (ICall 0 0 []) Kind × breaks_by (Call 1 1 (0 ∷ 0 ∷ [])) Kind × breaks_by (Call 0 1 (0 ∷ 1 ∷ [])) Kind × breaks_by (Call 0 2 (0 ∷ [])) Kind
  pub types :
      breaks_by (RefTo 1 1) Kind × breaks_by (Copy 1 2) Kind × breaks_by (Load 0 1) Kind × breaks_by (Load 1 2) Kind × breaks_by (Store 0 1) Kind
      × breaks_by (LoadX 0 0 0) Kind × breaks_by (StoreX 1 0 1) Kind × breaks_by (Const 1 (pos 1)) Kind × breaks_by (Output 1) Kind
  pub kept :
      keeps_by (Call 0 0 []) × keeps_by (Call 0 1 (0 ∷ 0 ∷ [])) × keeps_by (Call 0 2 (1 ∷ [])) × keeps_by (ICall 0 2 (0 ∷ 0 ∷ []))
      × keeps_by (RefTo 2 1) × keeps_by (Copy 1 1) × keeps_by (Load 2 2) × keeps_by (LoadX 0 1 0) × keeps_by (StoreX 1 0 0)
  pub terminators :
      (first_fault (line_program (Output 0) (Ret 1)) ≡ Some (At Kind 3 1 2)) × (first_fault (line_program (Output 0) (Ret 0)) ≡ Some (At MainRet 3 1 2))
  pub words :
      first_fault (record { globals = Array (codes "a") 65536 ∷ Scalar (codes "g") (pos 0) false ∷ []; funcs = idle_program.funcs }) ≡ Some (At GlobalWords 0 0 0)
  pub main : first_fault (record { globals = []; funcs = [] }) ≡ Some (At NoMain 0 0 0)
  pub end :
      first_fault (record { globals = []; funcs = number_func (codes "op") (Operation 1) 0 [] (code_block (codes "b0") [] Halt ∷ []) ∷ idle_program.funcs })
      ≡ Some (At NoEnd 0 0 0)
  pub operation :
      first_fault (record { globals = []; funcs = number_func (codes "f") Plain 0 (codes "z" ∷ []) (code_block (codes "b0") (Call 0 1 [] ∷ []) (Ret 0) ∷ []) ∷ idle_program.funcs })
      ≡ Some (At OperationCall 0 0 0)
