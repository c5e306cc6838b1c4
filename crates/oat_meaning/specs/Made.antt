-- The run for which an interpreter stands on its way.
use Rattle.std.specs.Prelude.{◌≡◌, ◌+◌, ◌≤◌}
use Rattle.oat_check.specs.{Rules.IsChecked, Runs.source_run}
use Rattle.oat_meaning.specs.{declared.interpreter.Interpreter.Interpreter, Recording.nothing_recorded, Recording.events_added, SourceRun.SourceRun, SourceRun.events_so_far, Standing.IsWellKept}
use Rattle.oat_meaning.specs.{Standing.source_state_of}

-- It is in the state behind the steps that were made, has recorded what they show, and has room for the other ones.
pub record HasReached (m : Interpreter) (run : SourceRun) : Type 0 where
  pub checked : IsChecked run.program
  pub program : m.program.now ≡ run.program
  pub ready : IsWellKept m
  pub state : source_state_of m ≡ source_run run.program run.inputs run.made
  pub recorded : m.kept.recorded ≡ events_added run.program (nothing_recorded run.op) (events_so_far run)
  pub within : run.made ≤ run.steps
  pub few : run.steps ≤ 4194304
  pub left : run.steps ≤ run.made + m.kept.left
