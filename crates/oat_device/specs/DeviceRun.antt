-- The run that a device has made so far, in the words of the measured run (docs/DEFINITIONS.md, "Measured run").
use Rattle.std.specs.Prelude.{◌≡◌, ◌<◌, ℕ, ℤ, List, [], ◌∷◌, ◌++◌, length}
use Rattle.oat_journal.specs.{Body, Case, Write, Image, BeginsAt, Opening, sealed, Monitored, state_at, IsFirstWindow, body_of, sealed_bodies, Measured.HasBody, Measured.ReportsSoundness}
use Rattle.oat_journal.specs.{Measured.Run, Measured.TellsItsWindow, Measured.dev, Measured.opening_of}

-- A device is an image, a case, the address of the SVC that opens its windows, and a number of instructions: it has made the measured run of so many of them, or of all where that ended.
pub record DeviceRun : Type 0 where
  pub image : Image
  pub case : Case
  pub begin_at : ℕ
  pub turns : ℕ

-- what its windows are opened for
abbrev pub window_opening : DeviceRun → Opening
window_opening device = opening_of device.image device.case.session device.begin_at

abbrev pub run_so_far : DeviceRun → Run
run_so_far device = dev device.image (window_opening device) device.case.inputs device.case.writes device.turns

-- the bodies of the windows that are sealed so far
abbrev pub bodies_so_far : DeviceRun → List Body
bodies_so_far device = sealed_bodies (window_opening device) (run_so_far device).measurements

-- It stands at the start of the run of a case on an image.
pub record IsAtStart (device : DeviceRun) (given : Image) (asked : Case) : Type 0 where
  pub image : device.image ≡ given
  pub case : device.case ≡ asked
  pub begins : BeginsAt given.map asked.session.op device.begin_at
  pub none_made : device.turns ≡ 0

-- the body that a sealed state gives
abbrev pub reported : Monitored → Body
reported shown = body_of shown.opening (state_at sealed shown)

-- the run has sealed the session's last window
abbrev pub IsSealed : Run → Type 0
IsSealed run = run.measurements.state.stage ≡ sealed

-- It has sealed the last window, and that sealed state gives the last of its bodies.
pub record ReportsItsBody (device : DeviceRun) (shown : Monitored) : Type 0 where
  pub sealed : IsSealed (run_so_far device)
  pub body : bodies_so_far device ≡ (run_so_far device).measurements.shelved ++ reported shown ∷ []

-- Each body tells its window, whose checked uses were all sound exactly where it has no violation.
pub record BodiesAreTrue (device : DeviceRun) : Type 0 where
  pub tells : (s : ℕ) (body : Body) → HasBody (window_opening device) (run_so_far device) s body → TellsItsWindow device.image (window_opening device) (run_so_far device) s body
  pub sound : (s : ℕ) (body : Body) → HasBody (window_opening device) (run_so_far device) s body → ReportsSoundness device.image (window_opening device) (run_so_far device) s body

-- It has made the whole run of a case on an image.
pub record HasRun (device : DeviceRun) (given : Image) (asked : Case) : Type 0 where
  pub begins : BeginsAt given.map asked.session.op device.begin_at
  pub opening : window_opening device ≡ opening_of given asked.session device.begin_at
  pub run : run_so_far device ≡ dev given (opening_of given asked.session device.begin_at) asked.inputs asked.writes asked.steps

-- From its start, with all steps of the case made, a device has made the whole run.
abbrev pub StepsMakeTheRun : Type 0
StepsMakeTheRun =
    (given : Image) (asked : Case) (old new : DeviceRun) → IsAtStart old given asked → new ≡ record old { turns = old.case.steps } → HasRun new given asked

-- A run whose last window has sealed has all the bodies that its session calls for, and any other run has fewer.
pub record CountsItsWindows (o : Opening) (run : Run) : Type 0 where
  pub all : IsSealed run → length (sealed_bodies o run.measurements) ≡ o.calls
  pub fewer : (IsSealed run → ⊥) → length (sealed_bodies o run.measurements) < o.calls

-- Each run of a session does, whatever is given and written.
abbrev pub WindowsAreCounted : Type 0
WindowsAreCounted = (image : Image) (o : Opening) (inputs : List ℤ) (writes : List Write) (n : ℕ) → IsFirstWindow o → CountsItsWindows o (dev image o inputs writes n)
