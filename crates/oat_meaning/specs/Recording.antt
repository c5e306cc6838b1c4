-- What is kept of the events of a run: its outputs, and of the calls of one operation the edges and the loads.
use Rattle.std.specs.{Prelude.◌+◌, Prelude.◌*◌, Prelude.◌≤◌, Prelude.ℕ, Prelude.ℤ, Prelude.Bool, Prelude.true, Prelude.false, Prelude.◌&&◌, Prelude.◌||◌, Prelude.nat_eq, Prelude.if◌then◌else◌}
use Rattle.std.specs.{Prelude.List, Prelude.[], Prelude.◌∷◌, Prelude.◌++◌, Prelude.length, Prelude.get_or, Prelude.Option, Prelude.Some, Prelude.None, List.fold}
use Rattle.oat_check.specs.{signed, Program, CriticalLoad, SourceEdge, End, SourceEvent, takes, enters, leaves, loads, stores, outputs, Naming.written_edge, Steps.LineEdge}

-- The edges and loads of all calls of the operation lie one behind the other, and of each call that has completed it is told where its path and its loads end.
pub record Recorded : Type 0 where
  pub op : ℕ
  pub inside : Bool
  pub outputs : List ℤ
  pub edges : List SourceEdge
  pub path_ends : List ℕ
  pub loads : List CriticalLoad
  pub load_ends : List ℕ

-- before the first event
abbrev pub nothing_recorded : ℕ → Recorded
nothing_recorded op = record { op = op; inside = false; outputs = []; edges = []; path_ends = []; loads = []; load_ends = [] }

-- ---- what each event adds

abbrev pub edge_added : Recorded → SourceEdge → Recorded
edge_added r edge = if r.inside then record r { edges = r.edges ++ edge ∷ [] } else r

abbrev pub when_entered : Recorded → ℕ → Recorded
when_entered r op = record r { inside = r.inside || nat_eq op r.op }

abbrev pub completed : Recorded → Recorded
completed r = record r {
  inside = false;
  edges = r.edges ++ End r.op ∷ [];
  path_ends = r.path_ends ++ (length r.edges + 1) ∷ [];
  load_ends = r.load_ends ++ length r.loads ∷ [];
}

abbrev pub when_left : Recorded → ℕ → Recorded
when_left r op = if r.inside && nat_eq op r.op then completed r else r

abbrev pub load_added : Recorded → ℕ → ℕ → Recorded
load_added r cell value = if r.inside then record r { loads = r.loads ++ record { cell = cell; value = signed value } ∷ [] } else r

abbrev pub output_added : Recorded → ℤ → Recorded
output_added r value = record r { outputs = r.outputs ++ value ∷ [] }

abbrev pub event_added : Program → Recorded → SourceEvent LineEdge → Recorded
event_added p r (takes edge) = edge_added r (written_edge p edge)
event_added p r (enters op) = when_entered r op
event_added p r (leaves op) = when_left r op
event_added p r (loads cell value) = load_added r cell value
event_added p r (stores cell value) = r
event_added p r (outputs value) = output_added r value

abbrev pub events_added : Program → Recorded → List (SourceEvent LineEdge) → Recorded
events_added p r events = fold (event_added p) r events

-- ---- what one step adds

-- a value, and the cell that was read, if it was one
abbrev pub read_added : Recorded → Option ℕ → ℕ → Recorded
read_added r (Some cell) value = load_added r cell value
read_added r None value = r

-- an edge, and the operation that is entered, if one is
abbrev pub call_added : Recorded → SourceEdge → Option ℕ → Recorded
call_added r edge (Some op) = when_entered (edge_added r edge) op
call_added r edge None = edge_added r edge

-- the operation that is left, if one is, and an edge
abbrev pub return_added : Recorded → SourceEdge → Option ℕ → Recorded
return_added r edge (Some op) = edge_added (when_left r op) edge
return_added r edge None = edge_added r edge

-- ---- where calls end

-- an edge that is the last of its path
abbrev pub ends_path : SourceEdge → Bool
ends_path (End op) = true
ends_path _ = false

-- where paths end among edges that lie behind so many: behind each one that ends its path
abbrev pub ends_behind : ℕ → List SourceEdge → List ℕ
ends_behind n [] = []
ends_behind n (edge ∷ edges) = if ends_path edge then (n + 1) ∷ ends_behind (n + 1) edges else ends_behind (n + 1) edges

-- where the first so many calls end, by the ends of all
abbrev pub calls_end : List ℕ → ℕ → ℕ
calls_end ends calls = get_or (0 ∷ ends) calls 0

-- ---- room

-- a record, and for how many more steps it has room
pub record RoomyRecord : Type 0 where
  pub recorded : Recorded
  pub left : ℕ

-- a list of so many items, in so much room, takes one more for each step that is left
pub record TakesMore (left items capacity : ℕ) : Type 0 where
  pub room : items + left ≤ capacity
  pub few : items + left ≤ 4194304

-- A call that has completed took two steps or more, and one that is on its way took one.
abbrev pub steps_of_calls : ℕ → Bool → ℕ
steps_of_calls calls inside = 2 * calls + (if inside then 1 else 0)

-- a list of the ends of calls, in so much room, takes one more for every two steps that these calls took or that are left
pub record TakesEnds (left taken capacity : ℕ) : Type 0 where
  pub room : taken + left ≤ 2 * capacity + 1
  pub few : taken + left ≤ 4194304
