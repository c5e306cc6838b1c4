-- The windows of an operation in a run's journal, and what the run shows in each: its path, its returns, its branch bits and its indirect targets (docs/DEFINITIONS.md, "Window").
use Rattle.std.specs.{Prelude.◌+◌, Prelude.ℕ, Prelude.Bool, Prelude.true, Prelude.false, Prelude.not, Prelude.nat_eq, Prelude.if◌then◌else◌, Prelude.List, Prelude.Option, Prelude.Some, Prelude.None}
use Rattle.std.specs.{List.filter_map, List.list_any}
use Rattle.oat_measure.specs.{Monitor.monitor_call, Monitor.opens, Monitor.seals, declared.call.MonitorCall.MonitorCall, Map, Row, Edge, is_called_at, is_returned_to, row_over, inside, up_to}
use Rattle.oat_measure.specs.{is_transfer}
use Rattle.oat_journal.specs.Run.{Entry, pc_of, next_of}
use Rattle.oat_measure.specs.declared.call.MonitorCall.TheVariants as svc
use Rattle.oat_map.specs.declared.row.Row.TheVariants as rows
use Rattle.oat_map.specs.declared.edge.Edge.TheVariants as edges

-- the monitor call that an instruction made
abbrev pub made_call : Entry → Option MonitorCall
made_call e = monitor_call e.inst e.found.regs

abbrev pub is_made : (MonitorCall → Bool) → Option MonitorCall → Bool
is_made test None = false
is_made test (Some call) = test call

-- whether a call opens the window of an operation that begins at this place, or seals it; an instruction is seen by the call that it makes
abbrev pub opens_window : {X : Type 0} → (X → Option MonitorCall) → ℕ → ℕ → X → Bool
opens_window call op begin_at e = is_made (opens op begin_at) (call e)

abbrev pub seals_window : {X : Type 0} → (X → Option MonitorCall) → ℕ → X → Bool
seals_window call op e = is_made (seals op) (call e)

-- Window s, counted from 0, of an operation that opens at begin_at: from behind the opening begin up to the sealing end.
abbrev pub window : {X : Type 0} → (X → Option MonitorCall) → ℕ → ℕ → ℕ → List X → List X
window call op begin_at s es = inside (opens_window call op begin_at) (seals_window call op) s es

-- all up to the begin that opens it
abbrev pub up_to_window : {X : Type 0} → (X → Option MonitorCall) → ℕ → ℕ → ℕ → List X → List X
up_to_window call op begin_at s es = up_to (opens_window call op begin_at) (seals_window call op) s es

-- ---- the executed path

-- What a transfer from pc to next shows, in the group of a row. The test of a Check row, and that of an element's number, show nothing. A Stray is none that the row allows.
abbrev pub edge_over : Map → Option Row → ℕ → ℕ → Option Edge
edge_over m (Some (rows.Jump at to)) pc next = Some (edges.Jump at next)
edge_over m (Some (rows.Branch at taken other)) pc next =
    if nat_eq pc (at + 8) then Some (edges.Branch at false next)
    else (if nat_eq next taken then Some (edges.Branch at true next) else None)
edge_over m (Some (rows.Call at to)) pc next = Some (edges.Call at next)
edge_over m (Some (rows.ICall at params)) pc next =
    if list_any (is_called_at params next) m.functions then Some (edges.ICall at next) else Some (edges.Stray pc next)
edge_over m (Some (rows.Ret at)) pc next =
    if list_any (is_returned_to next) m.rows then Some (edges.Ret at next) else Some (edges.Stray pc next)
edge_over m (Some (rows.Check at)) pc next = None
edge_over m (Some (rows.UseAt at cell len)) pc next = None
edge_over m (Some (rows.DefAt at cell len)) pc next = None
edge_over m (Some (rows.Begin at op)) pc next = Some (edges.Stray pc next)
edge_over m (Some (rows.End at op)) pc next = Some (edges.Stray pc next)
edge_over m (Some (rows.UseCell at cell)) pc next = Some (edges.Stray pc next)
edge_over m (Some (rows.DefCell at cell)) pc next = Some (edges.Stray pc next)
edge_over m None pc next = Some (edges.Stray pc next)

-- what an entry of the window shows: the edge of a transfer, the end that seals, or nothing
abbrev pub shown_edge : Map → ℕ → Entry → Option Edge
shown_edge m op e =
    if is_transfer e.inst then edge_over m (row_over m.rows (pc_of e)) (pc_of e) (next_of e)
    else (if seals_window made_call op e then Some (edges.End op) else None)

abbrev pub executed_path : Map → ℕ → List Entry → List Edge
executed_path m op window = filter_map (shown_edge m op) window

-- ---- the returns

abbrev pub returned : Option MonitorCall → Option ℕ
returned (Some (svc.Return address)) = Some address
returned _ = None

-- where the window's returns went, by what X30 held at each call of the monitor
abbrev pub returns_of_run : List Entry → List ℕ
returns_of_run window = filter_map (λ e. returned (made_call e)) window

-- ---- the branch bits and the indirect targets

abbrev pub recorded_bit : Option MonitorCall → Option Bool
recorded_bit (Some (svc.Bit value)) = Some (not (nat_eq value 0))
recorded_bit _ = None

-- whether each branch of the window was taken, by what X9 held at each call of the monitor
abbrev pub bits_of_run : List Entry → List Bool
bits_of_run window = filter_map (λ e. recorded_bit (made_call e)) window

abbrev pub recorded_target : Option MonitorCall → Option ℕ
recorded_target (Some (svc.Target address)) = Some address
recorded_target _ = None

-- where the window's indirect calls went, by what X9 held at each call of the monitor
abbrev pub targets_of_run : List Entry → List ℕ
targets_of_run window = filter_map (λ e. recorded_target (made_call e)) window
