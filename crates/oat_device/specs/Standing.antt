-- The measured run for which a device stands while it makes it, instruction by instruction (docs/DEFINITIONS.md, "Measured run").
use Rattle.std.specs.{Prelude.◌≡◌, Prelude.◌+◌, Prelude.◌-◌, Prelude.◌*◌, Prelude.◌≤◌, Prelude.◌<◌, Prelude.◌^◌, Prelude.◌⊎◌, Prelude.ℕ, Prelude.List, Prelude.Option, Prelude.Some, Prelude.None}
use Rattle.std.specs.{Prelude.IsSome, Prelude.length, Prelude.vec_len, Prelude.vec_capacity, List.AllByRecursion, Option.option_map}
use Rattle.oat_journal.specs.{Svc, instruction_at, next_pc, Case, IsInLimits, RisesFrom, Image, Engine, Opening, State, booted, engine_shown, engine_state, Measured.dev, Measured.opening_of}
use Rattle.oat_journal.specs.{Progress.Progress, Progress.measured_turn, Progress.progress_of_run, Progress.with_measurement, MonitorCall, measured_on}
use Rattle.oat_device.specs.{declared.course.Course.Course, Bare.DoesFrom, Bare.running_of, Telling.unnumbered, Telling.windows_due}

-- ---- what a device's values stand for

abbrev pub state_of : Option Engine → State
state_of None = booted None (λ _. None)
state_of (Some engine) = engine_state engine

abbrev pub progress_of : Course → Progress
progress_of device = record { running = running_of device.bare; measurements = record { shelved = device.shelf.bodies; state = state_of device.engine } }

-- what the device's windows are opened for
abbrev pub engine_opening : Option Engine → Option Opening
engine_opening engine = option_map (λ held. unnumbered (engine_shown held).opening) engine

-- The monitor has taken a call, in whichever session.
abbrev pub TakesCall : MonitorCall → Course → Course → Type 0
TakesCall call old new =
    (o : Opening) → engine_opening old.engine ≡ Some (unnumbered o) → progress_of new ≡ with_measurement (progress_of old) (measured_on o (progress_of old).measurements (Some call))

-- It has made one turn of the run, in whichever session.
abbrev pub TakesTurn : Course → Course → Type 0
TakesTurn old new =
    (o : Opening) → engine_opening old.engine ≡ Some (unnumbered o) → progress_of new ≡ measured_turn old.bare.code.now old.bare.writes.now o (progress_of old)

-- ---- room for what is still to come

-- room for the records of one kind: half of the instructions that are left, or half of all but the next one, where that makes none
abbrev pub HasRoom : List ℕ → ℕ → ℕ → ℕ → ℕ → Type 0
HasRoom code number left spare pc =
    (left ≤ 2 * spare) ⊎ ((left ≤ 2 * spare + 1) × (instruction_at code pc ≡ Some (Svc number) → ⊥))

abbrev pub spare_bits : Option Engine → ℕ
spare_bits None = 0
spare_bits (Some engine) = (engine_shown engine).spare_bits

abbrev pub spare_targets : Option Engine → ℕ
spare_targets None = 0
spare_targets (Some engine) = (engine_shown engine).spare_targets

-- the room that each window starts with
abbrev pub window_room : Option Engine → ℕ
window_room None = 0
window_room (Some engine) = (engine_shown engine).room

abbrev pub bits_held : Option Engine → ℕ
bits_held engine = length (state_of engine).bits

abbrev pub targets_held : Option Engine → ℕ
targets_held engine = length (state_of engine).targets

abbrev pub windows_to_come : Option Engine → ℕ
windows_to_come None = 0
windows_to_come (Some engine) = windows_due (engine_shown engine).opening

-- no monitor call of this number directly follows another
abbrev pub IsSpaced : List ℕ → ℕ → Type 0
IsSpaced code number =
    (pc : ℕ) → instruction_at code pc ≡ Some (Svc number) → instruction_at code (next_pc pc) ≡ Some (Svc number) → ⊥

-- The shelf has room for what the present window holds, and for the bodies of the windows to come. Of bodies there are few.
pub record HasShelfRoom (device : Course) : Type 0 where
  pub bits : bits_held device.engine ≤ device.shelf.spare_bits
  pub targets : targets_held device.engine ≤ device.shelf.spare_targets
  pub bodies : windows_to_come device.engine ≤ device.shelf.spare_bodies
  pub few : length device.shelf.bodies + windows_to_come device.engine + 1 < 2 ^ 32

-- the room that is left on the shelf once the present window lies there
abbrev pub shelf_bits : Course → ℕ
shelf_bits device = device.shelf.spare_bits - bits_held device.engine

abbrev pub shelf_targets : Course → ℕ
shelf_targets device = device.shelf.spare_targets - targets_held device.engine

-- what each device keeps: the writes that are left can be made, and all that is left of the run has room
pub record IsReady (device : Course) : Type 0 where
  pub measured : IsSome device.engine
  pub bits_spaced : IsSpaced device.bare.code.now 3
  pub targets_spaced : IsSpaced device.bare.code.now 4
  pub few : device.steps ≤ 4194304
  pub writes_fit : AllByRecursion IsInLimits device.bare.writes.now
  pub writes_rise : RisesFrom device.bare.made device.bare.writes.now
  pub outputs : device.steps + vec_len device.bare.outputs ≤ device.bare.made + vec_capacity device.bare.outputs
  pub bits : HasRoom device.bare.code.now 3 (device.steps - device.bare.made) (spare_bits device.engine) device.bare.cpu.pc
  pub targets : HasRoom device.bare.code.now 4 (device.steps - device.bare.made) (spare_targets device.engine) device.bare.cpu.pc
  pub window : device.steps ≤ 2 * window_room device.engine
  pub shelf : HasShelfRoom device
  pub bits_to_shelve : HasRoom device.bare.code.now 3 (device.steps - device.bare.made) (shelf_bits device) device.bare.cpu.pc
  pub targets_to_shelve : HasRoom device.bare.code.now 4 (device.steps - device.bare.made) (shelf_targets device) device.bare.cpu.pc

-- What a monitor call leaves of the room: what it was, less the records that it took, or all of a window's. Of the shelf's it takes no more.
pub record LeavesRoom (new_bits new_targets : ℕ) (old new : Course) : Type 0 where
  pub window : window_room new.engine ≡ window_room old.engine
  pub bits : (spare_bits old.engine ≤ spare_bits new.engine + new_bits) ⊎ (window_room new.engine ≤ spare_bits new.engine)
  pub targets : (spare_targets old.engine ≤ spare_targets new.engine + new_targets) ⊎ (window_room new.engine ≤ spare_targets new.engine)
  pub shelf : HasShelfRoom new
  pub bits_to_shelve : shelf_bits old ≤ shelf_bits new + new_bits
  pub targets_to_shelve : shelf_targets old ≤ shelf_targets new + new_targets

-- ---- standing

-- for how many instructions the run is made: a run that ended is the one of all steps
abbrev pub turns_of : Course → ℕ
turns_of device = elim device.bare.end [ None ↦ device.bare.made | Some why ↦ device.steps ]

-- The device has made the measured run of so many instructions of this image, with this case's session, inputs and writes, whose windows open there.
pub record HasMade (device : Course) (image : Image) (case : Case) (begin_at : ℕ) : Type 0 where
  pub ready : IsReady device
  pub code : device.bare.code.now ≡ image.code
  pub steps : device.steps ≡ case.steps
  pub within : device.bare.made ≤ device.steps
  pub measures : engine_opening device.engine ≡ Some (unnumbered (opening_of image case.session begin_at))
  pub run : progress_of device ≡ progress_of_run (dev image (opening_of image case.session begin_at) case.inputs case.writes (turns_of device))
  pub writes : DoesFrom device.bare.made device.bare.writes.now case.writes
