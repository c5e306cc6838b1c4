-- What is kept of the events of a run: its outputs, and whether the first call of one operation has begun and has completed.
use Rattle.std.specs.Prelude.{ℕ, ℤ, Bool, false, ◌&&◌, ◌||◌, nat_eq, List, [], ◌∷◌, ◌++◌, Option, Some, None}
use Rattle.oat_events.specs.Events.{SourceEvent, takes, enters, leaves, loads, stores, outputs}

pub record Recorded : Type 0 where
  pub op : ℕ
  pub begun : Bool
  pub completed : Bool
  pub outputs : List ℤ

-- and for how many more outputs there is room
pub record RoomyRecord : Type 0 where
  pub recorded : Recorded
  pub left : ℕ

abbrev pub nothing_recorded : ℕ → Recorded
nothing_recorded op = record { op = op; begun = false; completed = false; outputs = [] }

abbrev pub when_entered : Recorded → ℕ → Recorded
when_entered r op = record r { begun = r.begun || nat_eq op r.op }

abbrev pub when_left : Recorded → ℕ → Recorded
when_left r op = record r { completed = r.completed || (r.begun && nat_eq op r.op) }

abbrev pub output_added : Recorded → ℤ → Recorded
output_added r value = record r { outputs = r.outputs ++ value ∷ [] }

abbrev pub event_added : Recorded → SourceEvent ℕ → Recorded
event_added r (takes edge) = r
event_added r (enters op) = when_entered r op
event_added r (leaves op) = when_left r op
event_added r (loads cell value) = r
event_added r (stores cell value) = r
event_added r (outputs value) = output_added r value

abbrev pub events_added : Recorded → List (SourceEvent ℕ) → Recorded
events_added r [] = r
events_added r (e ∷ es) = events_added (event_added r e) es

-- ---- of an operation, if it is one

abbrev pub entry_added : Recorded → Option ℕ → Recorded
entry_added r (Some op) = when_entered r op
entry_added r None = r

abbrev pub exit_added : Recorded → Option ℕ → Recorded
exit_added r (Some op) = when_left r op
exit_added r None = r
