-- The measured run (`dev`): the bare run of an image with the measurement step applied to its journal's monitor calls (docs/DEFINITIONS.md, "Measured run").
use Rattle.std.specs.{Prelude.◌≡◌, Prelude.◌<◌, Prelude.◌⊎◌, Prelude.ℕ, Prelude.ℤ, Prelude.List, Prelude.[], Prelude.◌∷◌, Prelude.map, Prelude.nat_eq, Prelude.if◌then◌else◌, Prelude.Option}
use Rattle.std.specs.{Prelude.Some, Prelude.None, Prelude.option_map, Prelude.slice_get, Prelude.unwrap_or, List.All}
use Rattle.sha2.specs.Sha256.{sha256}
use Rattle.oat_image.specs.{declared.image.Image.Image, Grammar.image_text}
use Rattle.oat_case.specs.{declared.case.Session.Session, declared.case.Write.Write}
use Rattle.oat_measure.specs.{Violation, Body, chain, window_head, word_in, global_address, declared.opening.Opening.Opening, Shelving.Measurements, Shelving.Measured, Shelving.IsBodyAt}
use Rattle.oat_measure.specs.{Shelving.at_start, Shelving.measures, Shelving.serial_of, declared.stop.StopKind.StopKind, Cells}
use Rattle.oat_journal.specs.{declared.end.DeviceEnd.DeviceEnd, declared.end.DeviceEnd.TheVariants.OutOfSteps, declared.end.DeviceEnd.TheVariants.Stopped, Run.Running, Run.Entry, Run.bare}
use Rattle.oat_journal.specs.{Run.journal, Run.start_memory, Window.made_call, Window.up_to_window, Window.window, Window.returns_of_run, Window.bits_of_run, Window.targets_of_run, Uses.CheckedUse}
use Rattle.oat_journal.specs.{Uses.IsSound, Uses.uses_behind}

-- what the windows of a session on an image are opened for: the session's nonce and operation, the image's digest, and where the operation's windows open
abbrev pub opening_of : Image → Session → ℕ → Opening
opening_of image session begin_at = record { nonce = session.nonce; op = session.op; digest = sha256 (image_text image); begin_at = begin_at; serial = option_map (λ calls. 0) session.calls; calls = unwrap_or session.calls 1 }

-- a cell holds the word of global data whose index the image gives it
abbrev pub start_cells : Image → Cells
start_cells image = λ cell. option_map (λ index. word_in (start_memory image.words) (global_address index)) (slice_get image.cells cell)

pub record Run : Type 0 where
  pub running : Running
  -- of the windows so far
  pub measurements : Measurements
  pub end : Option DeviceEnd
  -- the entries of the instructions that the monitor let the run make
  pub journal : List Entry

abbrev pub run_until : Image → List ℤ → List Write → ℕ → Measured → Option StopKind → Run
run_until image inputs writes n measured None = record {
  running = bare image inputs writes n;
  measurements = measured.measurements;
  end = (bare image inputs writes n).end;
  journal = journal image inputs writes n;
}
run_until image inputs writes n measured (Some stop) = record {
  running = bare image inputs writes measured.taken;
  measurements = measured.measurements;
  end = Some (Stopped stop);
  journal = journal image inputs writes measured.taken;
}

-- The measured run of at most n instructions: where the monitor stops it after m of them, the bare run of m with that end.
abbrev pub dev : Image → Opening → List ℤ → List Write → ℕ → Run
dev image o inputs writes n =
    let measured = measures o (at_start o (start_cells image)) (map made_call (journal image inputs writes n)) in
    run_until image inputs writes n measured measured.stop

-- how a run ended; without an end it is out of steps
abbrev pub end_of : Run → DeviceEnd
end_of run = elim run.end [ None ↦ OutOfSteps | Some why ↦ why ]

-- ---- window s of a run

abbrev pub window_of : Opening → ℕ → Run → List Entry
window_of o s run = window made_call o.op o.begin_at s run.journal

-- the checked uses of the window, behind all calls that the run made before it
abbrev pub uses_of : Image → Opening → ℕ → Run → List CheckedUse
uses_of image o s run =
    uses_behind (start_cells image) (map made_call (up_to_window made_call o.op o.begin_at s run.journal)) (map made_call (window_of o s run))

-- the run sealed the window and has this body of it
abbrev pub HasBody : Opening → Run → ℕ → Body → Type 0
HasBody o run s body = IsBodyAt o run.measurements s body

-- the violation of the first use that isn't sound
abbrev pub first_unsound : List CheckedUse → Option Violation
first_unsound [] = None
first_unsound (first ∷ others) =
    if nat_eq first.defined first.found then first_unsound others
    else Some (record { cell = first.cell; expected = first.defined; found = first.found })

-- A body tells its window: what it was opened for, the chain of its returns behind its head, its branch bits and indirect targets, and the first checked use that wasn't sound.
pub record TellsItsWindow (image : Image) (o : Opening) (run : Run) (s : ℕ) (body : Body) : Type 0 where
  pub op : body.head.op ≡ o.op
  pub nonce : body.head.nonce ≡ o.nonce
  pub digest : body.head.digest ≡ o.digest
  pub serial : body.head.serial ≡ serial_of o s
  pub hash : body.head.hash ≡ chain (window_head o.nonce o.op o.digest (serial_of o s)) (returns_of_run (window_of o s run))
  pub bits : body.bits ≡ bits_of_run (window_of o s run)
  pub targets : body.targets ≡ targets_of_run (window_of o s run)
  pub violation : body.head.violation ≡ first_unsound (uses_of image o s run)

-- Whatever is given and written, each body that a run reports tells its window.
abbrev pub BodiesTellWindows : Type 0
BodiesTellWindows =
    (image : Image) (o : Opening) (inputs : List ℤ) (writes : List Write) (n s : ℕ) (body : Body)
    → HasBody o (dev image o inputs writes n) s body → TellsItsWindow image o (dev image o inputs writes n) s body

-- window s is the session's first, or one of its calls
abbrev pub IsCalledFor : Opening → ℕ → Type 0
IsCalledFor o s = (s ≡ 0) ⊎ ((number : ℕ) × (serial_of o s ≡ Some number) × (number < o.calls))

-- A run reports no more windows than the session calls for.
abbrev pub BodiesAreCalledFor : Type 0
BodiesAreCalledFor =
    (image : Image) (o : Opening) (inputs : List ℤ) (writes : List Write) (n s : ℕ) (body : Body)
    → HasBody o (dev image o inputs writes n) s body → IsCalledFor o s

-- A body has no violation exactly where each checked use of its window was sound.
pub record ReportsSoundness (image : Image) (o : Opening) (run : Run) (s : ℕ) (body : Body) : Type 0 where
  pub sound : body.head.violation ≡ None → All IsSound (uses_of image o s run)
  pub none : All IsSound (uses_of image o s run) → body.head.violation ≡ None

abbrev pub NoViolationMeansSound : Type 0
NoViolationMeansSound =
    (image : Image) (o : Opening) (inputs : List ℤ) (writes : List Write) (n s : ℕ) (body : Body)
    → HasBody o (dev image o inputs writes n) s body → ReportsSoundness image o (dev image o inputs writes n) s body
