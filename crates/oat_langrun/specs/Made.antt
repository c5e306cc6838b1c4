-- The run for which an interpreter stands on its way.
use Rattle.std.specs.Prelude.{◌≡◌, ◌+◌, ◌≤◌}
use Rattle.oat_tree.specs.Seen.{seen_tree}
use Rattle.oat_langrun.specs.declared.interpreter.Interpreter.{Interpreter}
use Rattle.oat_langrun.specs.LangRuns.{RunSoFar, events_so_far}
use Rattle.oat_langrun.specs.Meaning.{lang_run}
use Rattle.oat_langrun.specs.Recording.{events_added, nothing_recorded}
use Rattle.oat_langrun.specs.Running.{IsReady, state_of}

-- It is in the state behind the steps that were made, has recorded what they show, and has room for the other ones.
pub record HasReached (m : Interpreter) (run : RunSoFar) : Type 0 where
  pub ready : IsReady m
  pub items : m.items.now ≡ run.items
  pub state : state_of m ≡ lang_run (seen_tree run.items) run.inputs run.made
  pub recorded : m.kept.recorded ≡ events_added (nothing_recorded run.op) (events_so_far run)
  pub within : run.made ≤ run.steps
  pub left : run.steps ≤ run.made + m.kept.left
