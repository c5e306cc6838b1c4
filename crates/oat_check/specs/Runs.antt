-- The source run: a program with its inputs is a source, so its events, end, outputs, paths and loads are a source's.
use Rattle.std.specs.Prelude.{ℕ, suc, if◌then◌else◌, List, [], ◌∷◌, None, ℤ}
use Rattle.oat_events.specs.{Events.SourceEvent, Source.SourceMachine, Source.state_after, Source.events_after}
use Rattle.oat_ir.specs.{declared.program.Program.Program, declared.func.Func.Func}
use Rattle.oat_check.specs.{Globals.first_values, Rules.is_main, Naming.line_edge_name, Steps.LineEdge, Steps.finishes, Steps.SourceState, Steps.source_step}

-- the number of the main function
abbrev pub main_number : List Func → ℕ
main_number [] = 0
main_number (f ∷ fs) = if is_main f then 0 else suc (main_number fs)

abbrev pub source_start : Program → List ℤ → SourceState
source_start p inputs = record {
  frame = record { func = main_number p.funcs; block = 0; line = 0; locals = λ i. 0 };
  callers = [];
  globals = first_values p;
  inputs = inputs;
  end = None;
}

abbrev pub source_of : Program → List ℤ → SourceMachine
source_of p inputs = record {
  State = SourceState;
  Edge = LineEdge;
  start = source_start p inputs;
  next = λ s. (source_step p s).state;
  end = λ s. s.end;
  show = λ s. (source_step p s).shown;
  finish = finishes;
  name = line_edge_name p;
}

-- the state after n steps
abbrev pub source_run : Program → List ℤ → ℕ → SourceState
source_run p inputs n = state_after (source_of p inputs) n (source_start p inputs)

-- what these steps show
abbrev pub source_events : Program → List ℤ → ℕ → List (SourceEvent LineEdge)
source_events p inputs n = events_after (source_of p inputs) n
