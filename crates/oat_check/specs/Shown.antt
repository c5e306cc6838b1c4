-- What a source run shows after n steps: how it ends, its outputs, and of each call of an operation its path and its critical loads.
use Rattle.std.specs.Prelude.{ℕ, ℤ, List, Option, Some, None, map}
use Rattle.oat_bits.specs.Words.{signed}
use Rattle.oat_events.specs.Source.{Finish, halted, trapped, CellValue, outputs_of, path_of_call, loads_of_call}
use Rattle.oat_ir.specs.{declared.program.Program.Program, declared.source.CriticalLoad.CriticalLoad, declared.source.SourceEdge.SourceEdge, declared.source.SourceEnd.SourceEnd}
use Rattle.oat_ir.specs.{declared.source.SourceEnd.TheVariants.Halted, declared.source.SourceEnd.TheVariants.Trap, declared.source.SourceEnd.TheVariants.OutOfSteps}
use Rattle.oat_check.specs.{Naming.written_edge, Runs.source_of, Runs.source_run, Runs.source_events}

-- a run that hasn't ended is out of steps
abbrev pub written_end : Option Finish → SourceEnd
written_end (Some halted) = Halted
written_end (Some (trapped kind)) = Trap kind
written_end None = OutOfSteps

abbrev pub source_end : Program → List ℤ → ℕ → SourceEnd
source_end p inputs n = written_end (source_run p inputs n).end

abbrev pub source_outputs : Program → List ℤ → ℕ → List ℤ
source_outputs p inputs n = outputs_of (source_events p inputs n)

-- of call s, counted from 0; where it hasn't completed, what was shown in it so far
abbrev pub source_path : Program → List ℤ → ℕ → ℕ → ℕ → List SourceEdge
source_path p inputs n op s = map (written_edge p) (path_of_call (source_of p inputs) op s (source_events p inputs n))

abbrev pub written_load : CellValue → CriticalLoad
written_load load = record { cell = load.cell; value = signed load.value }

abbrev pub critical_loads : Program → List ℤ → ℕ → ℕ → ℕ → List CriticalLoad
critical_loads p inputs n op s = map written_load (loads_of_call op s (source_events p inputs n))
