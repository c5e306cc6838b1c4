-- The rule of operations and cells: of events as they are seen, and of whole runs of a source.
use Rattle.std.proofs.Common.{ℕ, List, [], ◌∷◌, map, filter_map, Option, Some, None, subst}
use Rattle.oat_events.proofs.SourceLaws.{passes_after}
use Rattle.oat_journal.specs.{Cells, defined, Passes, SourceEvent, takes, enters, leaves, loads, stores, outputs, SourceKeeps, SourceMachine, events_after, state_after}
use Rattle.oat_follow.specs.Placement.{Placement, seen_at}
use Rattle.oat_follow.proofs.Showing.{event_in}

-- ---- events as they are seen

passes-seen : {E : Type 0} (p : Placement E) (active : Option ℕ) (cells : Cells) (es : List (SourceEvent E)) (later : Option ℕ) (behind : Cells)
    → Passes active cells es later behind → Passes active cells (filter_map event_in (map (seen_at p) es)) later behind
passes-seen p active cells [] later behind h = h
passes-seen p active cells (takes edge ∷ es) later behind h = passes-seen p active cells es later behind h
passes-seen p active cells (enters op ∷ es) later behind h = (h.0, passes-seen p (Some op) cells es later behind h.1)
passes-seen p active cells (leaves op ∷ es) later behind h = (h.0, passes-seen p None cells es later behind h.1)
passes-seen p active cells (loads cell value ∷ es) later behind h = (h.0, passes-seen p active cells es later behind h.1)
passes-seen p active cells (stores cell value ∷ es) later behind h = passes-seen p active (defined cells cell value) es later behind h
passes-seen p active cells (outputs value ∷ es) later behind h = passes-seen p active cells es later behind h

-- ---- whole runs

pub record Ordered {E : Type 0} (words : Cells) (es : List (SourceEvent E)) : Type 0 where
  pub later : Option ℕ
  pub behind : Cells
  pub passes : Passes None words es later behind

pub source-ordered : (S : SourceMachine) (words : Cells) (K : SourceKeeps S words) (p : Placement S.Edge) (k : ℕ) → Ordered words (filter_map event_in (map (seen_at p) (events_after S k)))
source-ordered S words K p k =
    let later = K.active (state_after S k S.start) in
    let behind = K.cells (state_after S k S.start) in
    let none = subst (λ (active : Option ℕ). Passes active (K.cells S.start) (events_after S k) later behind) K.first_active (passes_after S words K k S.start K.good) in
    let first = subst (λ (cells : Cells). Passes None cells (events_after S k) later behind) K.first_cells none in
    record { later = later; behind = behind; passes = passes-seen p None words (events_after S k) later behind first }
