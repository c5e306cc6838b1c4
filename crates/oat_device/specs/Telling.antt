-- What the one engine of a run makes of a monitor call, and what a sealed window's way to the shelf changes (docs/FORMATS.md, "Monitor calls").
use Rattle.std.specs.Prelude.{◌≡◌, ◌+◌, ◌-◌, ◌≤◌, ◌⊎◌, ℕ, Option, Some, None, Result, Ok, Err, length}
use Rattle.oat_journal.specs.{Engine, Opening, StopKind, BodyShelf, State, Measurements, engine_shown, engine_state}

-- the state that a call leaves, or why it stops the run
abbrev pub outcome : Engine → Option StopKind → Result State StopKind
outcome engine None = Ok (engine_state engine)
outcome engine (Some stop) = Err stop

-- what all windows of a session are opened for
abbrev pub unnumbered : Opening → Opening
unnumbered o = record o { serial = None }

-- how many windows are due behind the present one
abbrev pub windows_due : Opening → ℕ
windows_due o = elim o.serial [ None ↦ 0 | Some serial ↦ o.calls - (serial + 1) ]

abbrev pub measurements_of : Engine → BodyShelf → Measurements
measurements_of engine shelf = record { shelved = shelf.bodies; state = engine_state engine }

-- a shelf has room for an engine's window and for the bodies of those that are due behind it
pub record FitsShelf (engine : Engine) (shelf : BodyShelf) : Type 0 where
  pub bits : length (engine_state engine).bits ≤ shelf.spare_bits
  pub targets : length (engine_state engine).targets ≤ shelf.spare_targets
  pub bodies : windows_due (engine_shown engine).opening ≤ shelf.spare_bodies

-- An engine goes on with the same session: with the room that it had, or with all of it free. Of the shelf's room is taken what goes there.
pub record Settles (old new : Engine) (before after : BodyShelf) : Type 0 where
  pub opening : unnumbered (engine_shown new).opening ≡ unnumbered (engine_shown old).opening
  pub room : (engine_shown new).room ≡ (engine_shown old).room
  pub spare_bits : ((engine_shown new).spare_bits ≡ (engine_shown old).spare_bits) ⊎ ((engine_shown new).room ≤ (engine_shown new).spare_bits)
  pub spare_targets : ((engine_shown new).spare_targets ≡ (engine_shown old).spare_targets) ⊎ ((engine_shown new).room ≤ (engine_shown new).spare_targets)
  pub bits : after.spare_bits + length (engine_state old).bits ≡ before.spare_bits + length (engine_state new).bits
  pub targets : after.spare_targets + length (engine_state old).targets ≡ before.spare_targets + length (engine_state new).targets
  pub bodies : length after.bodies + windows_due (engine_shown new).opening ≡ length before.bodies + windows_due (engine_shown old).opening
  pub spare_bodies : after.spare_bodies + windows_due (engine_shown old).opening ≡ before.spare_bodies + windows_due (engine_shown new).opening
