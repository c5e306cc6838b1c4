-- The shape rules that speak of the map alone, each as what has to hold at one address (docs/FORMATS.md, "Shape").
--
-- A rule holds where it holds at every address; the address where it fails is the one that a refusal names.
use Rattle.std.specs.Prelude.{◌≡◌, ◌+◌, ◌<◌, ◌≤◌, ℕ, List, slice_get, Some, Contains}
use Rattle.oat_image.specs.{Map, Function, Block, Row, Jump, Branch, Call, Begin, End, address_of, after, entries_of, starts_of}

-- S2: a row stands at or behind the end of the group of the row before it.
abbrev pub S2 : Map → ℕ → Type 0
S2 m a = (k : ℕ) (before row : Row) → slice_get m.rows k ≡ Some before → slice_get m.rows (k + 1) ≡ Some row
    → address_of row ≡ a → after before ≤ a

-- Among these entries of functions and starts of blocks, a jump or branch leads to starts, and a call to an entry.
abbrev pub LeadsToPlaces : List ℕ → List ℕ → Row → Type 0
LeadsToPlaces entries starts (Jump at to) = Contains starts to
LeadsToPlaces entries starts (Branch at taken other) = Contains starts taken × Contains starts other
LeadsToPlaces entries starts (Call at to) = Contains entries to
LeadsToPlaces entries starts _ = Unit {0}

-- S4: a row leads to places of the right kind.
abbrev pub S4 : Map → ℕ → Type 0
S4 m a = (row : Row) → Contains m.rows row → address_of row ≡ a
    → LeadsToPlaces (entries_of m.functions) (starts_of m.blocks) row

-- The k-th row, if it begins an operation, is the first that begins it; if it ends one, some row begins it.
abbrev pub IsPaired : List Row → ℕ → Row → Type 0
IsPaired rows k (Begin at op) = (j b : ℕ) → j < k → slice_get rows j ≡ Some (Begin b op) → ⊥
IsPaired rows k (End at op) = (b : ℕ) × Contains rows (Begin b op)
IsPaired rows k _ = Unit {0}

-- S7: no operation begins twice, and each that ends begins.
abbrev pub S7 : Map → ℕ → Type 0
S7 m a = (k : ℕ) (row : Row) → slice_get m.rows k ≡ Some row → address_of row ≡ a → IsPaired m.rows k row

-- The function of a place is the one with the greatest entry below it.
pub record IsFunctionOf (m : Map) (place : ℕ) (f : Function) : Type 0 where
  pub has : Contains m.functions f
  pub below : f.entry < place
  pub greatest : (g : Function) → Contains m.functions g → g.entry < place → g.entry ≤ f.entry

-- The k-th function has another name than each before it.
abbrev pub HasOwnName : Map → ℕ → Function → Type 0
HasOwnName m k f = (j : ℕ) (g : Function) → j < k → slice_get m.functions j ≡ Some g → g.name ≡ f.name → ⊥

-- The k-th block has another label than each block before it in its function.
abbrev pub HasOwnLabel : Map → ℕ → Block → Type 0
HasOwnLabel m k b = (j : ℕ) (c : Block) (f : Function) → j < k → slice_get m.blocks j ≡ Some c → c.label ≡ b.label
    → IsFunctionOf m c.start f → IsFunctionOf m b.start f → ⊥

-- A block lies above the entry of some function, starts at none, and has a label of its own there.
pub record IsPlaced (m : Map) (k : ℕ) (b : Block) : Type 0 where
  pub above : (entry : ℕ) × Contains (entries_of m.functions) entry × (entry < b.start)
  pub apart : Contains (entries_of m.functions) b.start → ⊥
  pub label : HasOwnLabel m k b

-- S8: functions and the blocks of a function have names of their own, and blocks lie in functions.
pub record S8 (m : Map) (a : ℕ) : Type 0 where
  pub functions : (k : ℕ) (f : Function) → slice_get m.functions k ≡ Some f → f.entry ≡ a → HasOwnName m k f
  pub blocks : (k : ℕ) (b : Block) → slice_get m.blocks k ≡ Some b → b.start ≡ a → IsPlaced m k b
