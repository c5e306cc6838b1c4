-- Laws of lists of events, of any edges.
use Rattle.std.proofs.Common.{◌≡◌, ℕ, true, List, [], ◌++◌, Option, None}
use Rattle.std.specs.{Prelude.nat_lt, List.filter_map}
use Rattle.oat_map.specs.Turns.{Turn, GoesBack, stays}
use Rattle.oat_events.specs.{Cells.Cells, Events.SourceEvent, Events.Active, Events.Passes, Events.Stacks, Source.edge_taken, Source.stretch, Source.has_completed, Source.calls_done}
use Rattle.oat_events.proofs.Stacking.{goes_back_in, calls_counted, stacks_join, passes_join, passes_part}

-- Where the rule of operations and cells holds of events and of what follows, it holds of both.
pub passes_joined : {E : Type 0} (front rest : List (SourceEvent E)) (now middle later : Option ℕ) (cells between behind : Cells)
    → Passes now cells front middle between → Passes middle between rest later behind → Passes now cells (front ++ rest) later behind
passes_joined front rest now middle later cells between behind one two = passes_join front rest now middle later cells between behind one two

-- Where it holds of both, it holds of each.
pub passes_parted : {E : Type 0} (front rest : List (SourceEvent E)) (now later : Option ℕ) (cells behind : Cells) → Passes now cells (front ++ rest) later behind
    → (middle : Option ℕ) × (between : Cells) × Passes now cells front middle between × Passes middle between rest later behind
passes_parted front rest now later cells behind h = passes_part front rest now later cells behind h

-- Joining, for the rule of open calls.
pub stacks_joined : {E P : Type 0} (turn : E → Turn P) (front rest : List (SourceEvent E)) (now middle later : Option (Active P))
    → Stacks turn now front middle → Stacks turn middle rest later → Stacks turn now (front ++ rest) later
stacks_joined turn front rest now middle later one two = stacks_join turn front rest now middle later one two

-- The path of each call that has completed goes back as it called.
pub paths_go_back : {E P : Type 0} (turn : E → Turn P) (finish : ℕ → E) → ((op : ℕ) → turn (finish op) ≡ stays)
    → (es : List (SourceEvent E)) (later : Option (Active P)) → Stacks turn None es later
    → (op s : ℕ) → has_completed op s es ≡ true → GoesBack turn [] (filter_map (edge_taken finish op) (stretch op s es))
paths_go_back turn finish ends es later stacks op s completed = goes_back_in turn finish ends es later stacks op s completed

-- The calls that have completed are the first ones.
pub completed_calls_are_first : {E P : Type 0} (turn : E → Turn P) (es : List (SourceEvent E)) (later : Option (Active P)) → Stacks turn None es later
    → (op s : ℕ) → has_completed op s es ≡ nat_lt s (calls_done op es)
completed_calls_are_first turn es later stacks op s = calls_counted turn es later stacks op s
