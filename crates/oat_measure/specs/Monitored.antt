-- What the measurement states show: the state of the measurement step, the window's opening, and the room for records (docs/FORMATS.md, "Monitor calls").
use Rattle.std.specs.Prelude.{◌≡◌, ℕ, Bool, List, Option, slice_get}
use Rattle.oat_blob.specs.declared.body.Violation.{Violation}
use Rattle.oat_events.specs.Cells.{Cells}
use Rattle.oat_measure.specs.{declared.opening.Opening.Opening, Measurement.Stage, Measurement.State}

pub record Monitored : Type 0 where
  pub opening : Opening
  -- the words of the cells, by their numbers
  pub cells : List ℕ
  pub hash : List ℕ
  pub bits : List Bool
  pub targets : List ℕ
  pub violation : Option Violation
  -- how many more bits and targets there is room for
  pub spare_bits : ℕ
  pub spare_targets : ℕ
  -- how many of either kind there is room for in all
  pub room : ℕ

abbrev pub cells_of : List ℕ → Cells
cells_of words = slice_get words

-- the state at a stage
abbrev pub state_at : Stage → Monitored → State
state_at stage shown = record {
  stage = stage;
  serial = shown.opening.serial;
  cells = cells_of shown.cells;
  hash = shown.hash;
  bits = shown.bits;
  targets = shown.targets;
  violation = shown.violation;
}

-- neither the opening nor the room has changed
pub record Keeps (old new : Monitored) : Type 0 where
  pub opening : new.opening ≡ old.opening
  pub spare_bits : new.spare_bits ≡ old.spare_bits
  pub spare_targets : new.spare_targets ≡ old.spare_targets
  pub room : new.room ≡ old.room
