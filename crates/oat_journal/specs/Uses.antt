-- Checked uses: what each use of a critical cell in the window found, and what the cell was last defined as (docs/DEFINITIONS.md, "Checked use").
use Rattle.std.specs.{Prelude.◌≡◌, Prelude.ℕ, Prelude.List, Prelude.[], Prelude.◌∷◌, Prelude.◌++◌, Prelude.nat_eq, Prelude.if◌then◌else◌, Prelude.Option, Prelude.Some, Prelude.None, Option.option_map}
use Rattle.std.specs.{List.filter_map, List.cons_option}
use Rattle.oat_measure.specs.declared.call.MonitorCall.{MonitorCall}
use Rattle.oat_measure.specs.declared.call.MonitorCall.TheVariants as svc

pub record CheckedUse : Type 0 where
  pub cell : ℕ
  pub found : ℕ
  pub defined : ℕ

-- the value that a call defines a cell as
abbrev pub define_of : ℕ → Option MonitorCall → Option ℕ
define_of cell (Some (svc.Define other value)) = if nat_eq cell other then Some value else None
define_of cell _ = None

abbrev pub last_of : ℕ → List ℕ → ℕ
last_of first [] = first
last_of first (value ∷ values) = last_of value values

-- The defined value of a cell behind these calls: that of the last define, or the cell's initial word.
abbrev pub defined_value : ℕ → ℕ → List (Option MonitorCall) → ℕ
defined_value word cell calls = last_of word (filter_map (define_of cell) calls)

abbrev pub use_behind : (ℕ → Option ℕ) → List (Option MonitorCall) → Option MonitorCall → Option CheckedUse
use_behind words calls (Some (svc.Use cell value)) =
    option_map (λ word. record { cell = cell; found = value; defined = defined_value word cell calls }) (words cell)
use_behind words calls _ = None

-- The checked uses among calls, behind the calls before; a number that is no cell is none.
abbrev pub uses_behind : (ℕ → Option ℕ) → List (Option MonitorCall) → List (Option MonitorCall) → List CheckedUse
uses_behind words before [] = []
uses_behind words before (call ∷ calls) = cons_option (use_behind words before call) (uses_behind words (before ++ call ∷ []) calls)

-- A use is sound where it found the defined value.
abbrev pub IsSound : CheckedUse → Type 0
IsSound checked = checked.found ≡ checked.defined

-- Behind these calls the cells hold the values that they were last defined as, from these words on.
unfoldable pub Held : (ℕ → Option ℕ) → List (Option MonitorCall) → (ℕ → Option ℕ) → Type 0
Held words before cells = (cell : ℕ) → cells cell ≡ option_map (λ word. defined_value word cell before) (words cell)
