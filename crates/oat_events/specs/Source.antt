-- A source, and what its run shows: outputs, and of each call of an operation the path, the loads, and the stores up to its end.
use Rattle.std.specs.{Prelude.◌≡◌, Prelude.ℕ, Prelude.zero, Prelude.suc, Prelude.ℤ, Prelude.Bool, Prelude.nat_eq, Prelude.if◌then◌else◌, Prelude.List, Prelude.[], Prelude.◌++◌, Prelude.Option}
use Rattle.std.specs.{Prelude.Some, Prelude.None, Prelude.count_by, List.filter_map}
use Rattle.oat_map.specs.{EdgeName.EdgeName, declared.trap.TrapKind.TrapKind}
use Rattle.oat_events.specs.{Cells.Cells, Events.SourceEvent, Events.takes, Events.leaves, Events.loads, Events.stores, Events.outputs, Events.is_entered, Events.is_left, Events.Passes}
use Rattle.oat_events.specs.{Windows.inside, Windows.up_to, Windows.is_closed}

-- how a source run ends
pub data Finish : Type 0 where
  halted : Finish
  trapped : TrapKind → Finish

-- A source with its inputs: it goes from state to state, and each step shows events. An edge of it may be of any form that has a name.
pub record SourceMachine : Type 1 where
  pub State : Type 0
  pub Edge : Type 0
  pub start : State
  pub next : State → State
  pub end : State → Option Finish
  -- what the step from a state shows
  pub show : State → List (SourceEvent Edge)
  -- the edge that the end of an operation gives
  pub finish : ℕ → Edge
  pub name : Edge → EdgeName

-- ---- the run

abbrev pub state_after : (S : SourceMachine) → ℕ → S.State → S.State
state_after S zero s = s
state_after S (suc n) s = state_after S n (S.next s)

abbrev pub shown_from : (S : SourceMachine) → ℕ → S.State → List (SourceEvent S.Edge)
shown_from S zero s = []
shown_from S (suc n) s = S.show s ++ shown_from S n (S.next s)

-- the events of the first n steps
abbrev pub events_after : (S : SourceMachine) → ℕ → List (SourceEvent S.Edge)
events_after S n = shown_from S n S.start

-- None where it has not ended after n steps
abbrev pub end_after : (S : SourceMachine) → ℕ → Option Finish
end_after S n = S.end (state_after S n S.start)

-- ---- what a list of events gives

abbrev pub output_in : {E : Type 0} → SourceEvent E → Option ℤ
output_in (outputs value) = Some value
output_in _ = None

abbrev pub edge_taken : {E : Type 0} → (ℕ → E) → ℕ → SourceEvent E → Option E
edge_taken finish op (takes edge) = Some edge
edge_taken finish op (leaves left) = if nat_eq left op then Some (finish op) else None
edge_taken finish op _ = None

pub record CellValue : Type 0 where
  pub cell : ℕ
  pub value : ℕ

abbrev pub load_in : {E : Type 0} → SourceEvent E → Option CellValue
load_in (loads cell value) = Some (record { cell = cell; value = value })
load_in _ = None

abbrev pub store_in : {E : Type 0} → SourceEvent E → Option CellValue
store_in (stores cell value) = Some (record { cell = cell; value = value })
store_in _ = None

abbrev pub outputs_of : {E : Type 0} → List (SourceEvent E) → List ℤ
outputs_of es = filter_map output_in es

-- ---- calls of an operation, counted from 0

-- how many have completed
abbrev pub calls_done : {E : Type 0} → ℕ → List (SourceEvent E) → ℕ
calls_done op es = count_by (is_left op) es

-- call s has completed
abbrev pub has_completed : {E : Type 0} → ℕ → ℕ → List (SourceEvent E) → Bool
has_completed op s es = is_closed (is_entered op) (is_left op) s es

-- from call s up to its own end, or as far as the events go
abbrev pub stretch : {E : Type 0} → ℕ → ℕ → List (SourceEvent E) → List (SourceEvent E)
stretch op s es = inside (is_entered op) (is_left op) s es

abbrev pub path_of_call : (S : SourceMachine) → ℕ → ℕ → List (SourceEvent S.Edge) → List S.Edge
path_of_call S op s es = filter_map (edge_taken S.finish op) (stretch op s es)

abbrev pub loads_of_call : {E : Type 0} → ℕ → ℕ → List (SourceEvent E) → List CellValue
loads_of_call op s es = filter_map load_in (stretch op s es)

-- from the start of the run up to the end of call s
abbrev pub stores_up_to_call : {E : Type 0} → ℕ → ℕ → List (SourceEvent E) → List CellValue
stores_up_to_call op s es = filter_map store_in (up_to (is_entered op) (is_left op) s es ++ stretch op s es)

-- ---- what a source keeps

-- What a source keeps from step to step: the operation that is active, and the values of the cells, which are these words at the start.
pub record SourceKeeps (S : SourceMachine) (words : Cells) : Type 1 where
  pub Good : S.State → Type 0
  pub good : Good S.start
  pub goes : (s : S.State) → Good s → Good (S.next s)
  -- an ended run stays as it is
  pub stays : (s : S.State) (why : Finish) → S.end s ≡ Some why → S.next s ≡ s
  pub quiet : (s : S.State) (why : Finish) → S.end s ≡ Some why → S.show s ≡ []
  pub active : S.State → Option ℕ
  pub cells : S.State → Cells
  pub first_active : active S.start ≡ None
  pub first_cells : cells S.start ≡ words
  pub passes : (s : S.State) → Good s → Passes (active s) (cells s) (S.show s) (active (S.next s)) (cells (S.next s))
