-- What one instruction more makes of a device and shows of itself, and what holds of measured runs of more and more instructions (docs/DEFINITIONS.md, "Measured run").
use Rattle.std.specs.Prelude.{◌≡◌, ◌+◌, ◌⊎◌, ℕ, ℤ, List, ◌∷◌, [], ◌++◌, nat_lt, if◌then◌else◌, Option, Some, None, IsSome, Ok}
use Rattle.oat_journal.specs.{Word, Write, Image, Opening, measuring, measured_on, declared.end.DeviceEnd.DeviceEnd, declared.end.DeviceEnd.TheVariants.OutOfSteps, Measured.Run, Measured.dev}
use Rattle.oat_journal.specs.{Run.Entry, Run.next_of, Run.pc_of, Window.made_call}
use Rattle.oat_device.specs.{declared.entry.Entry.Entry as ShownEntry, DeviceRun.DeviceRun, DeviceRun.run_so_far, DeviceRun.window_opening}

-- the run of one instruction more
abbrev pub run_after_next : DeviceRun → Run
run_after_next device = dev device.image (window_opening device) device.case.inputs device.case.writes (device.turns + 1)

-- how a run ended, by itself or with the last of its steps; None while it goes on
abbrev pub end_by_now : DeviceRun → Option DeviceEnd
end_by_now device =
    elim (run_so_far device).end [
      | None ↦ if nat_lt device.turns device.case.steps then None else Some OutOfSteps
      | Some why ↦ Some why
    ]

-- a window is open
abbrev pub IsInside : Run → Type 0
IsInside run = run.measurements.state.stage ≡ measuring

-- An entry of the journal, by its instruction's word, its address and the next one, and what X9, X10 and X30 held.
pub record ShowsEntry (shown : ShownEntry) (e : Entry) : Type 0 where
  pub word : Word e.inst shown.word
  pub pc : shown.pc ≡ pc_of e
  pub next : shown.next ≡ next_of e
  pub x9 : shown.x9 ≡ e.found.regs.x 9
  pub x10 : shown.x10 ≡ e.found.regs.x 10
  pub x30 : shown.x30 ≡ e.found.regs.x 30

-- The run went on, and this instruction didn't end it: its entry is shown, behind those of the others, and its monitor call is measured.
pub record HasEntry (old new : DeviceRun) (shown : ShownEntry) : Type 0 where
  pub went_on : end_by_now old ≡ None
  pub goes_on : (run_so_far new).end ≡ None
  pub counted : new.turns ≡ old.turns + 1
  pub entry : Entry
  pub behind : (run_so_far new).journal ≡ (run_so_far old).journal ++ entry ∷ []
  pub measured : measured_on (window_opening old) (run_so_far old).measurements (made_call entry) ≡ Ok (run_so_far new).measurements
  pub shows : ShowsEntry shown entry

-- The run had ended, by itself or with its steps, or this instruction ends it by itself: it is whole, and nothing more was measured.
pub record HasNoEntry (old new : DeviceRun) : Type 0 where
  pub ends : IsSome (end_by_now old) ⊎ IsSome (run_so_far new).end
  pub whole : new.turns ≡ new.case.steps
  pub measured : (run_so_far new).measurements ≡ (run_so_far old).measurements

-- ---- laws

-- A measured run that ended is that of each greater number of instructions.
abbrev pub MeasuredRunsStay : Type 0
MeasuredRunsStay =
    (image : Image) (o : Opening) (inputs : List ℤ) (writes : List Write) (n more : ℕ) (why : DeviceEnd)
    → (dev image o inputs writes n).end ≡ Some why → dev image o inputs writes (n + more) ≡ dev image o inputs writes n

-- The journal of a measured run begins with that of each smaller number of instructions.
abbrev pub JournalsGrow : Type 0
JournalsGrow =
    (image : Image) (o : Opening) (inputs : List ℤ) (writes : List Write) (n more : ℕ)
    → (later : List Entry) × ((dev image o inputs writes (n + more)).journal ≡ (dev image o inputs writes n).journal ++ later)
