-- What a run keeps from step to step: each function stands at a step of its own, those that wait stand at their calls, and main lies lowest.
use Rattle.std.specs.Prelude.{◌≡◌, ℕ, ◌+◌, ◌<◌, ◌≤◌, true, List, [], ◌∷◌, length, slice_get, Option, Some, None}
use Rattle.oat_events.specs.Cells.{Cells}
use Rattle.oat_check.specs.Globals.{cell_values}
use Rattle.oat_check.specs.Rules.{is_main_role}
use Rattle.oat_tree.specs.Scopes.{functions_of}
use Rattle.oat_tree.specs.Syntax.{Function, Tree}
use Rattle.oat_langrun.specs.Meaning.{Run, LangState, step_at, operation_at, first_of}
use Rattle.oat_langrun.specs.Steps.{Routines, routines_of, body_size}
use Rattle.oat_langrun.specs.declared.step.Act.TheVariants.{Calls}
use Rattle.oat_langrun.specs.declared.step.Step.{Step}

pub record Stands (tree : Tree) (r : Run) : Type 0 where
  pub its : Function
  pub is : slice_get (functions_of tree) r.func ≡ Some its
  pub within : r.place < body_size its.body + 1

-- for a function that it called
pub record Waits (tree : Tree) (r : Run) (func : ℕ) : Type 0 where
  pub stands : Stands tree r
  pub st : Step
  pub there : step_at (routines_of tree) r ≡ Some st
  pub count : ℕ
  pub calling : st.act ≡ Calls func count

pub record IsMain (tree : Tree) (func : ℕ) : Type 0 where
  pub its : Function
  pub is : slice_get (functions_of tree) func ≡ Some its
  pub main : is_main_role its.role ≡ true

abbrev pub AreCallers : Tree → ℕ → List Run → Type 0
AreCallers tree func [] = IsMain tree func
AreCallers tree func (r ∷ rs) = Waits tree r func × AreCallers tree r.func rs

pub record IsGood (tree : Tree) (s : LangState) : Type 0 where
  pub stands : Stands tree s.run
  pub callers : AreCallers tree s.run.func s.callers
  pub few : length s.callers ≤ 256

-- ---- what is active

-- The function directly above main may be an operation's.
abbrev pub active_in : Routines → ℕ → List Run → Option ℕ
active_in c func [] = None
active_in c func (r ∷ []) = operation_at c func
active_in c func (r ∷ (q ∷ qs)) = active_in c r.func (q ∷ qs)

abbrev pub operation_active : Routines → LangState → Option ℕ
operation_active c s = active_in c s.run.func s.callers

abbrev pub cells_at : Routines → LangState → Cells
cells_at c s = cell_values c.globals s.globals

abbrev pub first_cells : Routines → Cells
first_cells c = cell_values c.globals (first_of c)
