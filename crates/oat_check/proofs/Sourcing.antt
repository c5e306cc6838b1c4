-- Whole runs: what each step keeps is kept by all, and the paths of calls go back as they called.
use Rattle.std.proofs.Common.{refl, ap}
use Rattle.oat_events.specs.Events.{is_entered, is_left}
use Rattle.oat_events.proofs.{EventLaws.paths_go_back, EventLaws.completed_calls_are_first, WindowLaws.windows_are_cut}
use Rattle.oat_check.specs.{Active.active_of, Active.first_cells, Active.line_turn, RunLaws.CallsAreCounted, RunLaws.CallsAreCut, RunLaws.CallsGoBack, RunLaws.EndedRunsStay, RunLaws.RunsAreConsistent}
use Rattle.oat_check.specs.{RunLaws.RunsPass, RunLaws.RunsStack, Runs.source_events, Runs.source_of, Runs.source_start, Steps.finishes}
use Rattle.oat_check.proofs.{Lines.step_lawful, Keeping.ended_step, Keeping.runs_start_consistent, Kept.keeps}
use Rattle.oat_events.proofs.SourceLaws as source

pub runs_are_consistent : RunsAreConsistent
runs_are_consistent p ok inputs n = source.good_after (source_of p inputs) (first_cells p) (keeps p ok inputs) n (source_start p inputs) (runs_start_consistent p ok inputs)

pub runs_pass : RunsPass
runs_pass p ok inputs n = source.passes_after (source_of p inputs) (first_cells p) (keeps p ok inputs) n (source_start p inputs) (runs_start_consistent p ok inputs)

pub runs_stack : RunsStack
runs_stack p ok inputs n =
    source.stacks_after (source_of p inputs) (first_cells p) (keeps p ok inputs) line_turn (active_of p) (λ s good. (step_lawful p ok s good).stacks) n (source_start p inputs) (runs_start_consistent p ok inputs)

pub calls_go_back : CallsGoBack
calls_go_back p ok inputs n op s closed = paths_go_back line_turn finishes (λ op. refl) (source_events p inputs n) _ (runs_stack p ok inputs n) op s closed

pub calls_are_counted : CallsAreCounted
calls_are_counted p ok inputs n op s = completed_calls_are_first line_turn (source_events p inputs n) _ (runs_stack p ok inputs n) op s

pub calls_are_cut : CallsAreCut
calls_are_cut p inputs n op s = windows_are_cut (is_entered op) (is_left op) (source_events p inputs n) s

pub ended_runs_stay : EndedRunsStay
ended_runs_stay p inputs n k why is =
    source.ended_runs_stay (source_of p inputs) (λ s why is. ap (λ next. next.state) (ended_step p s why is)) (λ s why is. ap (λ next. next.shown) (ended_step p s why is))
    n k (source_start p inputs) why is
