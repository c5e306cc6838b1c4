-- The lowest address at which a rule fails, as it is found by a look at each item of a list (docs/FORMATS.md, "Shape").
use Rattle.std.specs.Prelude.{◌≡◌, ◌<◌, ℕ, nat_le, Bool, if◌then◌else◌, List, slice_get, Option, Some, None}
use Rattle.oat_shape.specs.Shape.{Everywhere, FailsLowest}

-- no address where a rule holds, and otherwise the lowest one at which it fails
abbrev pub Lowest : (ℕ → Type 0) → Option ℕ → Type 0
Lowest rule None = Everywhere rule
Lowest rule (Some at) = FailsLowest rule at

-- what has to hold of each item at its address
abbrev pub EachAt : {X : Type 0} → List X → (ℕ → X → ℕ) → (ℕ → X → Type 0) → ℕ → Type 0
EachAt {X} items place Keeps a = (k : ℕ) (x : X) → slice_get items k ≡ Some x → place k x ≡ a → Keeps k x

-- the same of the items before number i
abbrev pub EachBelow : {X : Type 0} → List X → (ℕ → X → ℕ) → (ℕ → X → Type 0) → ℕ → ℕ → Type 0
EachBelow {X} items place Keeps i a = (k : ℕ) (x : X) → k < i → slice_get items k ≡ Some x → place k x ≡ a → Keeps k x

-- the lower of two addresses, where there are any
abbrev pub lower : Option ℕ → Option ℕ → Option ℕ
lower None second = second
lower (Some first) None = Some first
lower (Some first) (Some second) = if nat_le first second then Some first else Some second

-- the lowest address behind one more item, which keeps a rule or breaks it at its address
abbrev pub noted : Option ℕ → Bool → ℕ → Option ℕ
noted lowest keeps at = if keeps then lowest else lower lowest (Some at)
