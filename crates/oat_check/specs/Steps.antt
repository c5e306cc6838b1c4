-- The source step: one row for each line of the language, and the events that it shows (docs/FORMATS.md, "Program text").
--
-- A value is a number below 2^64. A reference of function f is f + 1, and null is 0.
use Rattle.std.specs.{Prelude.ℕ, Prelude.◌+◌, Prelude.◌-◌, Prelude.Bool, Prelude.true, Prelude.false, Prelude.nat_eq, Prelude.nat_lt, Prelude.nat_le, Prelude.if◌then◌else◌, Prelude.List, Prelude.[]}
use Rattle.std.specs.{Prelude.◌∷◌, Prelude.◌++◌, Prelude.length, Prelude.map, Prelude.get_or, Prelude.slice_get, Prelude.Option, Prelude.Some, Prelude.None, Prelude.is_some, Prelude.ℤ}
use Rattle.std.specs.{Option.option_and_then}
use Rattle.oat_bits.specs.Words.{signed}
use Rattle.oat_events.specs.{TrapKind, DivZero, Index, NullCall, Depth, InputEnd, Events.SourceEvent, Source.Finish, Source.halted, Source.trapped}
use Rattle.oat_ir.specs.{declared.program.Program.Program, declared.func.Role.Role, declared.func.Role.TheVariants.Operation, declared.instr.Instr.Instr, declared.instr.Instr.TheVariants.Const}
use Rattle.oat_ir.specs.{declared.instr.Instr.TheVariants.Copy, declared.instr.Instr.TheVariants.Binary, declared.instr.Instr.TheVariants.Load, declared.instr.Instr.TheVariants.Store}
use Rattle.oat_ir.specs.{declared.instr.Instr.TheVariants.LoadX, declared.instr.Instr.TheVariants.StoreX, declared.instr.Instr.TheVariants.RefTo, declared.instr.Instr.TheVariants.Call}
use Rattle.oat_ir.specs.{declared.instr.Instr.TheVariants.ICall, declared.instr.Instr.TheVariants.Input, declared.instr.Instr.TheVariants.Output, declared.instr.Term.Term}
use Rattle.oat_ir.specs.{declared.instr.Term.TheVariants.Jump, declared.instr.Term.TheVariants.Branch, declared.instr.Term.TheVariants.Ret, declared.instr.Term.TheVariants.Halt}
use Rattle.oat_check.specs.{Globals.Values, Globals.put, Globals.length_at, Globals.cell_number, Lines.CodeLine, Lines.instruction, Lines.terminator, Lines.line_in, Operators.number}
use Rattle.oat_check.specs.{Operators.result_of}
use Rattle.oat_events.specs.Events as event

-- ---- places, edges, states

-- a line of a program; the terminator's number is that of the block's instructions
pub record LinePlace : Type 0 where
  pub func : ℕ
  pub block : ℕ
  pub line : ℕ

-- an edge from a line on: to a block, to a function, or back to the line of the call
pub data LineEdge : Type 0 where
  jumps : (from : LinePlace) (block : ℕ) → LineEdge
  branches : (from : LinePlace) (bit : Bool) (block : ℕ) → LineEdge
  calls : (from : LinePlace) (func : ℕ) → LineEdge
  icalls : (from : LinePlace) (func : ℕ) → LineEdge
  returns : (from back : LinePlace) → LineEdge
  finishes : (op : ℕ) → LineEdge

-- a function that is running, or waits at the line of its call
pub record Frame : Type 0 where
  pub func : ℕ
  pub block : ℕ
  pub line : ℕ
  pub locals : ℕ → ℕ

pub record SourceState : Type 0 where
  pub frame : Frame
  -- the frames that wait, the last caller first
  pub callers : List Frame
  pub globals : Values
  pub inputs : List ℤ
  pub end : Option Finish

-- the state behind a step, and what the step shows
pub record Next : Type 0 where
  pub state : SourceState
  pub shown : List (SourceEvent LineEdge)

-- ---- lines

abbrev pub line_place : Frame → LinePlace
line_place f = record { func = f.func; block = f.block; line = f.line }

abbrev pub current_line : Program → Frame → Option CodeLine
current_line p f = option_and_then (λ func. option_and_then (λ b. line_in b f.line) (slice_get func.blocks f.block)) (slice_get p.funcs f.func)

-- the number of the operation that a function is, if it is one
abbrev pub operation_number : Role → Option ℕ
operation_number (Operation op) = Some op
operation_number _ = None

abbrev pub operation_of : Program → ℕ → Option ℕ
operation_of p g = option_and_then (λ func. operation_number func.role) (slice_get p.funcs g)

-- ---- parts of steps

abbrev pub assigned : (ℕ → ℕ) → ℕ → ℕ → (ℕ → ℕ)
assigned locals x value = λ i. if nat_eq i x then value else locals i

abbrev pub silent : SourceState → Next
silent s = record { state = s; shown = [] }

abbrev pub ends_by : SourceState → Finish → Next
ends_by s why = silent (record s { end = Some why })

abbrev pub traps_by : SourceState → TrapKind → Next
traps_by s kind = ends_by s (trapped kind)

-- on to the next line
abbrev pub onward : SourceState → SourceState
onward s = record s { frame = record s.frame { line = s.frame.line + 1 } }

abbrev pub sets : SourceState → ℕ → ℕ → SourceState
sets s x value = record s { frame = record s.frame { line = s.frame.line + 1; locals = assigned s.frame.locals x value } }

-- no result is a division by zero
abbrev pub computes : SourceState → ℕ → Option ℕ → Next
computes s x (Some value) = silent (sets s x value)
computes s x None = traps_by s DivZero

-- the event of a cell or of an operation, if it is one
abbrev pub shows : Option ℕ → (ℕ → SourceEvent LineEdge) → List (SourceEvent LineEdge)
shows (Some number) event = event number ∷ []
shows None event = []

-- element i of global g is read into x, or written
abbrev pub reads : Program → SourceState → ℕ → ℕ → ℕ → Next
reads p s x g i = record {
  state = sets s x (s.globals g i);
  shown = shows (cell_number p g i) (λ cell. event.loads cell (s.globals g i));
}

abbrev pub writes : Program → SourceState → ℕ → ℕ → ℕ → Next
writes p s g i value = record {
  state = onward (record s { globals = put s.globals g i value });
  shown = shows (cell_number p g i) (λ cell. event.stores cell value);
}

abbrev pub in_array : Program → SourceState → ℕ → ℕ → Next → Next
in_array p s g i next = if nat_lt i (length_at p g) then next else traps_by s Index

abbrev pub goes_to : SourceState → LineEdge → ℕ → Next
goes_to s edge block = record { state = record s { frame = record s.frame { block = block; line = 0 } }; shown = event.takes edge ∷ [] }

-- the function starts with its arguments, other locals at 0; its caller waits
abbrev pub entered : SourceState → ℕ → List ℕ → SourceState
entered s g args = record s {
  frame = record { func = g; block = 0; line = 0; locals = λ i. get_or (map s.frame.locals args) i 0 };
  callers = s.frame ∷ s.callers;
}

-- a call, where fewer than 256 are active
abbrev pub runs : Program → SourceState → LineEdge → ℕ → List ℕ → Next
runs p s edge g args =
    if nat_le 256 (length s.callers) then traps_by s Depth
    else record { state = entered s g args; shown = event.takes edge ∷ shows (operation_of p g) event.enters }

-- the local that a call's result goes into
abbrev pub result_at : Option CodeLine → ℕ
result_at (Some (instruction (Call x g args))) = x
result_at (Some (instruction (ICall x y args))) = x
result_at _ = 0

-- a return to the line behind the call; where nothing called, it stays
abbrev pub gives : Program → SourceState → ℕ → List Frame → Next
gives p s value [] = silent s
gives p s value (g ∷ gs) = record {
  state = record s { frame = record g { line = g.line + 1; locals = assigned g.locals (result_at (current_line p g)) value }; callers = gs };
  shown = shows (operation_of p s.frame.func) event.leaves ++ event.takes (returns (line_place s.frame) (line_place g)) ∷ [];
}

abbrev pub takes_in : SourceState → ℕ → List ℤ → Next
takes_in s x [] = traps_by s InputEnd
takes_in s x (value ∷ rest) = silent (sets (record s { inputs = rest }) x (number value))

-- ---- the rows: v is what each local holds

abbrev pub does : Program → SourceState → (ℕ → ℕ) → Instr → Next
does p s v (Const x value) = silent (sets s x (number value))
does p s v (Copy x y) = silent (sets s x (v y))
does p s v (Binary op x y z) = computes s x (result_of op (v y) (v z))
does p s v (Load x g) = reads p s x g 0
does p s v (Store g x) = writes p s g 0 (v x)
does p s v (LoadX x g i) = in_array p s g (v i) (reads p s x g (v i))
does p s v (StoreX g i x) = in_array p s g (v i) (writes p s g (v i) (v x))
does p s v (RefTo x g) = silent (sets s x (g + 1))
does p s v (Call x g args) = runs p s (calls (line_place s.frame) g) g args
does p s v (ICall x y args) =
    if nat_eq (v y) 0 then traps_by s NullCall else runs p s (icalls (line_place s.frame) (v y - 1)) (v y - 1) args
does p s v (Input x) = takes_in s x s.inputs
does p s v (Output x) = record { state = onward s; shown = event.outputs (signed (v x)) ∷ [] }

abbrev pub closes : Program → SourceState → (ℕ → ℕ) → Term → Next
closes p s v (Jump to) = goes_to s (jumps (line_place s.frame) to) to
closes p s v (Branch x first second) =
    if nat_eq (v x) 0 then goes_to s (branches (line_place s.frame) false second) second
    else goes_to s (branches (line_place s.frame) true first) first
closes p s v (Ret x) = gives p s (v x) s.callers
closes p s v Halt = ends_by s halted

-- where there is no line it stays; in a run of a checked program there always is one
abbrev pub at_line : Program → SourceState → Option CodeLine → Next
at_line p s (Some (instruction i)) = does p s s.frame.locals i
at_line p s (Some (terminator t)) = closes p s s.frame.locals t
at_line p s None = silent s

-- an ended run stays as it is
abbrev pub source_step : Program → SourceState → Next
source_step p s = if is_some s.end then silent s else at_line p s (current_line p s.frame)
