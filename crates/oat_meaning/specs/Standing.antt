-- The state of a run for which the interpreter's values stand.
use Rattle.std.specs.{Prelude.◌≡◌, Prelude.◌+◌, Prelude.◌-◌, Prelude.◌<◌, Prelude.◌≤◌, Prelude.◌^◌, Prelude.ℕ, Prelude.nat_eq, Prelude.if◌then◌else◌, Prelude.List, Prelude.[], Prelude.◌∷◌}
use Rattle.std.specs.{Prelude.map, Prelude.Option, Prelude.Some, Prelude.None, List.AllByRecursion}
use Rattle.oat_check.specs.{NullCall, Instr, Const, Copy, Binary, Load, Store, LoadX, StoreX, RefTo, Call, ICall, Input, Output, Program, SourceEnd, Finish, halted, trapped, Steps.Next}
use Rattle.oat_check.specs.{Steps.SourceState, Steps.current_line, Steps.icalls, Steps.line_place, Steps.result_at, Steps.runs, Steps.traps_by, Globals.length_at}
use Rattle.oat_meaning.specs.{declared.activation.Activation.Activation, declared.interpreter.Interpreter.Interpreter, Activations.CountsCalls, Activations.frame_of, Activations.locals_of}
use Rattle.oat_meaning.specs.{Globals.values_of, Recording.events_added}
use Rattle.oat_ir.specs.declared.source.SourceEnd.TheVariants as ends

abbrev pub finish_of : SourceEnd → Option Finish
finish_of ends.OutOfSteps = None
finish_of ends.Halted = Some halted
finish_of (ends.Trap kind) = Some (trapped kind)

abbrev pub source_state_of : Interpreter → SourceState
source_state_of m = record {
  frame = frame_of m.running;
  callers = map frame_of m.callers;
  globals = values_of m.globals;
  inputs = m.inputs.now;
  end = finish_of m.end;
}

-- ---- what each interpreter keeps

pub record IsWellKept (m : Interpreter) : Type 0 where
  pub globals : m.globals.program ≡ m.program.now
  pub running : CountsCalls m.program.now m.running
  pub callers : AllByRecursion (CountsCalls m.program.now) m.callers

-- It has made a step: it stands for the state behind it, and its record has what the step shows.
pub record HasStepped (old : Interpreter) (next : Next) (new : Interpreter) : Type 0 where
  pub state : source_state_of new ≡ next.state
  pub recorded : new.kept.recorded ≡ events_added old.program.now old.kept.recorded next.shown
  pub left : old.kept.left ≤ new.kept.left + 1
  pub program : new.program.now ≡ old.program.now
  pub ready : IsWellKept new

-- ---- what the interpreter needs of a line

-- from its line it goes on to the next one, with as many more calls before it
pub record GoesPast (p : Program) (a : Activation) (calls : ℕ) : Type 0 where
  pub short : a.line + 1 < 2 ^ 32
  pub few : a.number + calls < 2 ^ 32
  pub numbered : CountsCalls p (record a { line = a.line + 1; number = a.number + calls })

-- an activation that waits goes on behind its call
abbrev pub CanResume : Program → List Activation → Type 0
CanResume p [] = Unit {0}
CanResume p (caller ∷ callers) = GoesPast p caller 1 × (result_at (current_line p (frame_of caller)) < 255)

abbrev pub CanSet : Program → Activation → ℕ → Type 0
CanSet p a x = GoesPast p a 0 × (x < 255)

-- a scalar has its element
abbrev pub HasElement : Program → ℕ → Type 0
HasElement p g = 0 < length_at p g

-- what an instruction of a checked program lets the interpreter rely on
abbrev pub Allows : Program → Activation → Instr → Type 0
Allows p a (Const x value) = CanSet p a x
Allows p a (Copy x y) = CanSet p a x
Allows p a (Binary op x y z) = CanSet p a x
Allows p a (Load x g) = CanSet p a x × HasElement p g
Allows p a (Store g x) = GoesPast p a 0 × HasElement p g
Allows p a (LoadX x g i) = CanSet p a x
Allows p a (StoreX g i x) = GoesPast p a 0
Allows p a (RefTo x g) = CanSet p a x
Allows p a (Call x g args) = Unit {0}
Allows p a (ICall x y args) = locals_of a y < 2 ^ 32
Allows p a (Input x) = CanSet p a x
Allows p a (Output x) = GoesPast p a 0

-- an indirect call
abbrev pub runs_through : Program → SourceState → ℕ → List ℕ → Next
runs_through p s reference args =
    if nat_eq reference 0 then traps_by s NullCall else runs p s (icalls (line_place s.frame) (reference - 1)) (reference - 1) args
