-- What a step of a source shows, and two rules that its events keep: of operations and cells, and of open calls.
use Rattle.std.specs.Prelude.{◌≡◌, ℕ, ℤ, Bool, false, nat_eq, List, [], ◌∷◌, Option, Some, None}
use Rattle.oat_map.specs.Turns.{Turn, Turned}
use Rattle.oat_events.specs.Cells.{Cells, defined}

pub data SourceEvent (E : Type 0) : Type 0 where
  takes : (edge : E) → SourceEvent E
  -- an operation is called, and returns
  enters : (op : ℕ) → SourceEvent E
  leaves : (op : ℕ) → SourceEvent E
  -- critical data is read and written
  loads : (cell value : ℕ) → SourceEvent E
  stores : (cell value : ℕ) → SourceEvent E
  outputs : (value : ℤ) → SourceEvent E

abbrev pub is_entered : {E : Type 0} → ℕ → SourceEvent E → Bool
is_entered op (enters entered) = nat_eq entered op
is_entered op _ = false

abbrev pub is_left : {E : Type 0} → ℕ → SourceEvent E → Bool
is_left op (leaves left) = nat_eq left op
is_left op _ = false

-- ---- operations and cells

-- From the operation that is active and the values of the cells to those behind the events: no operation is entered inside one, only the active one is left, and a load gives what its cell holds.
abbrev pub Passes : {E : Type 0} → Option ℕ → Cells → List (SourceEvent E) → Option ℕ → Cells → Type 0
Passes active cells [] later_active later_cells = (active ≡ later_active) × (cells ≡ later_cells)
Passes active cells (takes edge ∷ es) later_active later_cells = Passes active cells es later_active later_cells
Passes active cells (enters op ∷ es) later_active later_cells = (active ≡ None) × Passes (Some op) cells es later_active later_cells
Passes active cells (leaves op ∷ es) later_active later_cells = (active ≡ Some op) × Passes None cells es later_active later_cells
Passes active cells (loads cell value ∷ es) later_active later_cells = (cells cell ≡ Some value) × Passes active cells es later_active later_cells
Passes active cells (stores cell value ∷ es) later_active later_cells = Passes active (defined cells cell value) es later_active later_cells
Passes active cells (outputs value ∷ es) later_active later_cells = Passes active cells es later_active later_cells

-- ---- open calls

-- the operation that is active, and the calls that are open above its own frame
pub record Active (P : Type 0) : Type 0 where
  pub op : ℕ
  pub calls : List P

-- From what is active to what is active behind the events: an operation is entered where none is active, in it each return goes back to its last open call, and only the active one is left, with none of its calls open.
abbrev pub Stacks : {E P : Type 0} → (E → Turn P) → Option (Active P) → List (SourceEvent E) → Option (Active P) → Type 0
Stacks turn now [] later = now ≡ later
Stacks turn None (takes edge ∷ es) later = Stacks turn None es later
Stacks turn (Some active) (takes edge ∷ es) later = Turned active.calls (turn edge) (λ calls. Stacks turn (Some (record { op = active.op; calls = calls })) es later)
Stacks turn now (enters op ∷ es) later = (now ≡ None) × Stacks turn (Some (record { op = op; calls = [] })) es later
Stacks turn now (leaves op ∷ es) later = (now ≡ Some (record { op = op; calls = [] })) × Stacks turn None es later
Stacks turn now (loads cell value ∷ es) later = Stacks turn now es later
Stacks turn now (stores cell value ∷ es) later = Stacks turn now es later
Stacks turn now (outputs value ∷ es) later = Stacks turn now es later
