-- The state of a run for which an interpreter stands, and what it keeps.
use Rattle.std.specs.Prelude.{◌≡◌, ◌+◌, ◌<◌, ◌≤◌, ◌^◌, ℕ, false, List, [], ◌∷◌, length, get_or, map, slice_get, Option, Some}
use Rattle.oat_check.specs.Rules.{is_main_role}
use Rattle.oat_events.specs.Events.{leaves}
use Rattle.oat_meaning.specs.Standing.{finish_of}
use Rattle.oat_tree.specs.Rules.{IsLang}
use Rattle.oat_tree.specs.Scopes.{functions_of, globals_of}
use Rattle.oat_tree.specs.Seen.{seen_tree}
use Rattle.oat_tree.specs.Syntax.{Function, Tree}
use Rattle.oat_langrun.specs.declared.activation.Activation.{Activation}
use Rattle.oat_langrun.specs.declared.interpreter.Interpreter.{Interpreter}
use Rattle.oat_langrun.specs.declared.step.Step.{Step}
use Rattle.oat_langrun.specs.declared.step.Use.{Use}
use Rattle.oat_langrun.specs.declared.step.Use.TheVariants.{Keeps, StoresScalar, Returns}
use Rattle.oat_langrun.specs.Keeping.{IsGood}
use Rattle.oat_langrun.specs.Meaning.{LangState, Shown, first_of, if_any, operation_at, step_at, takes_value}
use Rattle.oat_langrun.specs.Memories.{AreWordsOf, values_of}
use Rattle.oat_langrun.specs.Recording.{events_added}
use Rattle.oat_langrun.specs.Standing.{run_of}
use Rattle.oat_langrun.specs.Steps.{Routines, routines_of}

abbrev pub tree_of : Interpreter → Tree
tree_of m = seen_tree m.items.now

abbrev pub code_of : Interpreter → Routines
code_of m = record { globals = globals_of (tree_of m); routines = m.routines }

abbrev pub state_of : Interpreter → LangState
state_of m = record {
  run = run_of m.running;
  callers = map run_of m.callers;
  globals = values_of (first_of (code_of m)) m.memory;
  inputs = m.inputs.now;
  end = finish_of m.end;
}

-- each global has its words
abbrev pub HasWords : Interpreter → Type 0
HasWords m = AreWordsOf (globals_of (tree_of m)) m.memory

-- It has made a step: it stands for the state behind it, and its record has what the step shows.
pub record HasStepped (old : Interpreter) (next : Shown) (new : Interpreter) : Type 0 where
  pub state : state_of new ≡ next.state
  pub recorded : new.kept.recorded ≡ events_added old.kept.recorded next.shown
  pub left : old.kept.left ≤ new.kept.left + 1
  pub items : new.items.now ≡ old.items.now
  pub routines : new.routines ≡ old.routines
  pub words : map length new.memory ≡ map length old.memory

-- what a use lets the interpreter rely on
abbrev pub CanUse : Interpreter → Use → Type 0
CanUse m Keeps = m.running.place + 1 < 2 ^ 64
CanUse m (StoresScalar g to) = 0 < length (get_or m.memory g [])
CanUse m Returns = ⊥
CanUse m _ = Unit {0}

-- it stands for a good state of its text
pub record IsReady (m : Interpreter) : Type 0 where
  pub lang : IsLang (tree_of m)
  pub routines : m.routines ≡ (routines_of (tree_of m)).routines
  pub words : HasWords m
  pub good : IsGood (tree_of m) (state_of m)

-- at this step
abbrev pub StandsAt : Interpreter → Step → Type 0
StandsAt m st = step_at (code_of m) (run_of m.running) ≡ Some st

-- its function was called
abbrev pub IsCalled : Interpreter → Type 0
IsCalled m = (f : Function) → slice_get (functions_of (tree_of m)) m.running.func ≡ Some f → is_main_role f.role ≡ false

-- The last caller runs again: the value is put where its step uses it.
pub record HasResumed (old : Interpreter) (value : ℕ) (use_of : Option Use) (new : Interpreter) : Type 0 where
  pub caller : Activation
  pub rest : List Activation
  pub callers : old.callers ≡ caller ∷ rest
  pub st : Step
  pub there : step_at (code_of old) (run_of caller) ≡ Some st
  pub use_is : use_of ≡ Some st.use_of
  pub state : state_of new ≡ record (state_of old) { run = takes_value st.use_of st.open_below (run_of caller) value; callers = map run_of rest }
  pub recorded : new.kept.recorded ≡ events_added old.kept.recorded (if_any (operation_at (code_of old) old.running.func) leaves)
  pub left : new.kept.left ≡ old.kept.left
  pub items : new.items.now ≡ old.items.now
  pub routines : new.routines ≡ old.routines
  pub memory : new.memory ≡ old.memory
