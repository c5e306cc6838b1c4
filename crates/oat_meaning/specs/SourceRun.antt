-- The run that a source has made so far, and what it shows of itself (docs/FORMATS.md, "Program text").
use Rattle.std.specs.Prelude.{ℕ, ℤ, Bool, List}
use Rattle.oat_check.specs.{Program, CriticalLoad, SourceEdge, SourceEnd, SourceEvent, calls_done, has_completed, Runs.source_events, Shown.critical_loads, Shown.source_end, Shown.source_outputs}
use Rattle.oat_check.specs.{Shown.source_path, Steps.LineEdge}

-- A program with its inputs, the operation whose calls are told, the most steps that the run may make, and for how many it is made: for all, where it has ended.
pub record SourceRun : Type 0 where
  pub program : Program
  pub inputs : List ℤ
  pub op : ℕ
  pub steps : ℕ
  pub made : ℕ

-- before the first step
abbrev pub first_run : Program → List ℤ → ℕ → ℕ → SourceRun
first_run p inputs op steps = record { program = p; inputs = inputs; op = op; steps = steps; made = 0 }

-- behind the last one
abbrev pub whole_run : Program → List ℤ → ℕ → ℕ → SourceRun
whole_run p inputs op steps = record { program = p; inputs = inputs; op = op; steps = steps; made = steps }

abbrev pub events_so_far : SourceRun → List (SourceEvent LineEdge)
events_so_far run = source_events run.program run.inputs run.made

-- ---- its end and outputs

abbrev pub end_so_far : SourceRun → SourceEnd
end_so_far run = source_end run.program run.inputs run.made

abbrev pub outputs_so_far : SourceRun → List ℤ
outputs_so_far run = source_outputs run.program run.inputs run.made

-- ---- its calls of the operation, counted from 0

abbrev pub calls_so_far : SourceRun → ℕ
calls_so_far run = calls_done run.op (events_so_far run)

abbrev pub completed_so_far : SourceRun → ℕ → Bool
completed_so_far run s = has_completed run.op s (events_so_far run)

-- the path of call s, up to its end or as far as the run goes
abbrev pub path_so_far : SourceRun → ℕ → List SourceEdge
path_so_far run s = source_path run.program run.inputs run.made run.op s

abbrev pub loads_so_far : SourceRun → ℕ → List CriticalLoad
loads_so_far run s = critical_loads run.program run.inputs run.made run.op s
