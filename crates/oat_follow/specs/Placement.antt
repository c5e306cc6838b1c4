-- Where a source lies in an image, and how its events are seen there.
use Rattle.std.specs.Prelude.{◌≡◌, ℕ, List, [], ◌∷◌}
use Rattle.oat_journal.specs.{SourceEvent, takes, enters, leaves, loads, stores, outputs, Edge, Map, EdgeName, name_of}
use Rattle.oat_follow.specs.Events.{MachineEvent, moves, monitors, prints}
use Rattle.oat_measure.specs.declared.call.MonitorCall.TheVariants as svc

pub record Placement (E : Type 0) : Type 0 where
  pub edge : E → Edge
  -- the SVC 1 of an operation
  pub begin : ℕ → ℕ

abbrev pub seen_at : {E : Type 0} → Placement E → SourceEvent E → MachineEvent
seen_at p (takes edge) = moves (p.edge edge)
seen_at p (enters op) = monitors (svc.Begin op (p.begin op))
seen_at p (leaves op) = monitors (svc.End op)
seen_at p (loads cell value) = monitors (svc.Use cell value)
seen_at p (stores cell value) = monitors (svc.Define cell value)
seen_at p (outputs value) = prints value

-- The edge by which an edge is seen has its name.
abbrev pub IsNamed : {E : Type 0} → Map → Placement E → (E → EdgeName) → SourceEvent E → Type 0
IsNamed flow p name (takes edge) = name_of flow (p.edge edge) ≡ name edge
IsNamed flow p name _ = Unit {0}

abbrev pub AreNamed : {E : Type 0} → Map → Placement E → (E → EdgeName) → List (SourceEvent E) → Type 0
AreNamed flow p name [] = Unit {0}
AreNamed flow p name (e ∷ es) = IsNamed flow p name e × AreNamed flow p name es
