-- The meaning of a text: its run, step by step, and what each step shows.
--
-- A value is a number below 2^64, which stands for the integer of 64 bits that it is in two's complement.
use Rattle.std.specs.Prelude.{ℕ, suc, ◌+◌, nat_eq, nat_lt, nat_le, if◌then◌else◌, List, [], ◌∷◌, ◌++◌, length, map, get_or, slice_get, Option, Some, None, is_some, ℤ, pos}
use Rattle.std.specs.Option.{option_and_then}
use Rattle.std.specs.List.{range_with_len}
use Rattle.oat_bits.specs.Words.{signed, difference}
use Rattle.oat_map.specs.EdgeName as name
use Rattle.oat_map.specs.declared.trap.TrapKind.{TrapKind}
use Rattle.oat_map.specs.declared.trap.TrapKind.TheVariants.{DivZero, Index, Depth, InputEnd}
use Rattle.oat_ir.specs.declared.instr.BinOp.TheVariants.{Add, Sub, Mul, And, Or, Xor, Shl, Sar, Eq, Ne, Lt, Le, Div, Rem}
use Rattle.oat_events.specs.Events as event
use Rattle.oat_events.specs.Events.{SourceEvent}
use Rattle.oat_events.specs.Source.{Finish, halted, trapped, SourceMachine, state_after, events_after}
use Rattle.oat_check.specs.Globals.{Values, put, of_global, start_of, size_in_words, size_in_cells, element_number}
use Rattle.oat_check.specs.Operators.{number, result_of}
use Rattle.oat_check.specs.Rules.{is_main_role}
use Rattle.oat_check.specs.Steps.{operation_number}
use Rattle.oat_tree.specs.Syntax.{Tree}
use Rattle.oat_tree.specs.declared.operator.Operator.{Operator}
use Rattle.oat_tree.specs.declared.operator.Operator.TheVariants.{Equal, Unequal, Less, AtMost, Greater, AtLeast, BitOr, BitXor, BitAnd, ShiftLeft, ShiftRight, Plus, Minus, Times, Quotient, Remainder}
use Rattle.oat_langrun.specs.declared.routine.Routine.{Routine}
use Rattle.oat_langrun.specs.Steps.{Routines, routines_of}
use Rattle.oat_langrun.specs.declared.step.Act.{Act}
use Rattle.oat_langrun.specs.declared.step.Act.TheVariants.{Begins, Decides, ReachesEnd, Literal, ReadsLocal, ReadsScalar, ReadsElement, Calls, TakesInput, Negates, Operates}
use Rattle.oat_langrun.specs.declared.step.Step.{Step}
use Rattle.oat_langrun.specs.declared.step.Use.{Use}
use Rattle.oat_langrun.specs.declared.step.Use.TheVariants.{Keeps, Drops, Assigns, StoresScalar, StoresElement, Puts, Chooses, Returns, Halts}

-- ---- operators

-- None where it divides by 0
abbrev pub operated : Operator → ℕ → ℕ → Option ℕ
operated Equal a b = result_of Eq a b
operated Unequal a b = result_of Ne a b
operated Less a b = result_of Lt a b
operated AtMost a b = result_of Le a b
operated Greater a b = result_of Lt b a
operated AtLeast a b = result_of Le b a
operated BitOr a b = result_of Or a b
operated BitXor a b = result_of Xor a b
operated BitAnd a b = result_of And a b
operated ShiftLeft a b = result_of Shl a b
operated ShiftRight a b = result_of Sar a b
operated Plus a b = result_of Add a b
operated Minus a b = result_of Sub a b
operated Times a b = result_of Mul a b
operated Quotient a b = result_of Div a b
operated Remainder a b = result_of Rem a b

-- ---- states

-- a function that is running, or waits at the step of its call
pub record Run : Type 0 where
  pub func : ℕ
  pub place : ℕ
  pub locals : ℕ → ℕ
  pub operands : ℕ → ℕ

pub record LangState : Type 0 where
  pub run : Run
  -- those that wait, the last caller first
  pub callers : List Run
  pub globals : Values
  pub inputs : List ℤ
  pub end : Option Finish

-- The language shows no edges of its own: its edges are numbers of operations.
pub record Shown : Type 0 where
  pub state : LangState
  pub shown : List (SourceEvent ℕ)

abbrev pub step_at : Routines → Run → Option Step
step_at c r = option_and_then (λ routine. slice_get routine.steps r.place) (slice_get c.routines r.func)

abbrev pub operation_at : Routines → ℕ → Option ℕ
operation_at c g = option_and_then (λ routine. operation_number routine.role) (slice_get c.routines g)

-- ---- parts of steps

abbrev pub changed : (ℕ → ℕ) → ℕ → ℕ → (ℕ → ℕ)
changed values x value = λ i. if nat_eq i x then value else values i

abbrev pub quietly : LangState → Shown
quietly s = record { state = s; shown = [] }

abbrev pub ends_with : LangState → Finish → Shown
ends_with s why = quietly (record s { end = Some why })

abbrev pub traps_with : LangState → TrapKind → Shown
traps_with s kind = ends_with s (trapped kind)

abbrev pub shows_behind : List (SourceEvent ℕ) → Shown → Shown
shows_behind events next = record { state = next.state; shown = events ++ next.shown }

abbrev pub if_any : Option ℕ → (ℕ → SourceEvent ℕ) → List (SourceEvent ℕ)
if_any (Some n) show = show n ∷ []
if_any None show = []

abbrev pub length_of : Routines → ℕ → ℕ
length_of c g = of_global size_in_words (slice_get c.globals g)

abbrev pub cell_of : Routines → ℕ → ℕ → Option ℕ
cell_of c g i = element_number size_in_cells c.globals g i

abbrev pub goes_on_at : LangState → ℕ → LangState
goes_on_at s to = record s { run = record s.run { place = to } }

-- a value that isn't assigned is held as an operand
abbrev pub locals_with : Use → (ℕ → ℕ) → ℕ → (ℕ → ℕ)
locals_with (Assigns x to) locals v = changed locals x v
locals_with _ locals v = locals

abbrev pub operands_with : Use → ℕ → (ℕ → ℕ) → ℕ → (ℕ → ℕ)
operands_with (Assigns x to) below operands v = operands
operands_with _ below operands v = changed operands below v

abbrev pub takes_value : Use → ℕ → Run → ℕ → Run
takes_value use_of below r v = record r { locals = locals_with use_of r.locals v; operands = operands_with use_of below r.operands v }

abbrev pub writes_global : Routines → LangState → ℕ → ℕ → ℕ → ℕ → Shown
writes_global c s g i v to = record {
  state = goes_on_at (record s { globals = put s.globals g i v }) to;
  shown = if_any (cell_of c g i) (λ cell. event.stores cell v);
}

-- ---- what becomes of a value; where it is returned, `back` says what follows

abbrev pub uses : Routines → LangState → Use → ℕ → Shown → Shown
uses c s Keeps v back = quietly (goes_on_at s (suc s.run.place))
uses c s (Drops to) v back = quietly (goes_on_at s to)
uses c s (Assigns x to) v back = quietly (goes_on_at s to)
uses c s (StoresScalar g to) v back = writes_global c s g 0 v to
uses c s (StoresElement g to) v back =
    if nat_lt (s.run.operands 0) (length_of c g) then writes_global c s g (s.run.operands 0) v to else traps_with s Index
uses c s (Puts to) v back = record { state = goes_on_at s to; shown = event.outputs (signed v) ∷ [] }
uses c s (Chooses first second) v back = quietly (goes_on_at s (if nat_eq v 0 then second else first))
uses c s Returns v back = back
uses c s Halts v back = ends_with s halted

-- the value of a call, to its step in the function that waited
abbrev pub resumes : Routines → LangState → Run → List Run → Option Step → ℕ → Shown → Shown
resumes c s r rs (Some st) v back = uses c (record s { run = takes_value st.use_of st.open_below r v; callers = rs }) st.use_of v back
resumes c s r rs None v back = quietly s

-- A function returns: its caller goes on with the value, and so does the caller's own caller where that returns it in turn.
abbrev pub given_back : Routines → LangState → ℕ → ℕ → List Run → Shown
given_back c s func v [] = quietly s
given_back c s func v (r ∷ rs) =
    shows_behind (if_any (operation_at c func) event.leaves) (resumes c s r rs (step_at c r) v (given_back c s r.func v rs))

abbrev pub uses_here : Routines → LangState → Step → ℕ → Shown
uses_here c s st v = uses c s st.use_of v (given_back c s s.run.func v s.callers)

-- a node has a value
abbrev pub gives : Routines → LangState → Step → ℕ → Shown
gives c s st v = uses_here c (record s { run = takes_value st.use_of st.open_below s.run v }) st v

abbrev pub gives_if : Routines → LangState → Step → Option ℕ → Shown
gives_if c s st (Some v) = gives c s st v
gives_if c s st None = traps_with s DivZero

abbrev pub reads_global : Routines → LangState → Step → ℕ → ℕ → Shown
reads_global c s st g i = shows_behind (if_any (cell_of c g i) (λ cell. event.loads cell (s.globals g i))) (gives c s st (s.globals g i))

-- the function starts with its arguments, its other locals at 0
abbrev pub entered_with : LangState → ℕ → List ℕ → LangState
entered_with s g args = record s {
  run = record { func = g; place = 0; locals = λ i. get_or args i 0; operands = λ i. 0 };
  callers = s.run ∷ s.callers;
}

abbrev pub arguments : (ℕ → ℕ) → ℕ → ℕ → List ℕ
arguments operands below count = map operands (range_with_len below count)

abbrev pub enters : Routines → LangState → ℕ → List ℕ → Shown
enters c s g args =
    if nat_le 256 (length s.callers) then traps_with s Depth
    else record { state = entered_with s g args; shown = if_any (operation_at c g) event.enters }

abbrev pub gives_input : Routines → LangState → Step → List ℤ → Shown
gives_input c s st [] = traps_with s InputEnd
gives_input c s st (value ∷ rest) = gives c (record s { inputs = rest }) st (number value)

-- ---- the rules: v is what each operand is

abbrev pub acts : Routines → LangState → Step → (ℕ → ℕ) → ℕ → Act → Shown
acts c s st v below Begins = uses_here c s st 0
acts c s st v below Decides = uses_here c s st (v below)
acts c s st v below ReachesEnd = uses_here c s st 0
acts c s st v below (Literal value) = gives c s st (number (pos value))
acts c s st v below (ReadsLocal x) = gives c s st (s.run.locals x)
acts c s st v below (ReadsScalar g) = reads_global c s st g 0
acts c s st v below (ReadsElement g) = if nat_lt (v below) (length_of c g) then reads_global c s st g (v below) else traps_with s Index
acts c s st v below (Calls g count) = enters c s g (arguments v below count)
acts c s st v below TakesInput = gives_input c s st s.inputs
acts c s st v below Negates = gives c s st (difference 0 (v below))
acts c s st v below (Operates op) = gives_if c s st (operated op (v below) (v (below + 1)))

abbrev pub acts_at : Routines → LangState → Option Step → Shown
acts_at c s (Some st) = acts c s st s.run.operands st.open_below st.act
acts_at c s None = quietly s

-- an ended run stays as it is
abbrev pub lang_step : Routines → LangState → Shown
lang_step c s = if is_some s.end then quietly s else acts_at c s (step_at c s.run)

-- ---- the run

abbrev pub main_at : List Routine → ℕ
main_at [] = 0
main_at (r ∷ rs) = if is_main_role r.role then 0 else suc (main_at rs)

abbrev pub first_of : Routines → Values
first_of c = λ g i. of_global start_of (slice_get c.globals g)

abbrev pub lang_start : Routines → List ℤ → LangState
lang_start c inputs = record {
  run = record { func = main_at c.routines; place = 0; locals = λ i. 0; operands = λ i. 0 };
  callers = [];
  globals = first_of c;
  inputs = inputs;
  end = None;
}

abbrev pub machine_of : Routines → List ℤ → SourceMachine
machine_of c inputs = record {
  State = LangState;
  Edge = ℕ;
  start = lang_start c inputs;
  next = λ s. (lang_step c s).state;
  end = λ s. s.end;
  show = λ s. (lang_step c s).shown;
  finish = λ op. op;
  name = name.finish;
}

-- the language's run for n steps, and what it shows
abbrev pub lang_run : Tree → List ℤ → ℕ → LangState
lang_run tree inputs n = state_after (machine_of (routines_of tree) inputs) n (lang_start (routines_of tree) inputs)

abbrev pub lang_events : Tree → List ℤ → ℕ → List (SourceEvent ℕ)
lang_events tree inputs n = events_after (machine_of (routines_of tree) inputs) n
