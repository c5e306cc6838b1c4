-- A measured run in the making, one instruction at a time: what each turn of it leaves, in the words of the bare run and of the measurement step, and what all turns come to (docs/DEFINITIONS.md, "Measured run").
use Rattle.std.specs.Prelude.{◌≡◌, ℕ, zero, suc, ℤ, List, Option, Some, None, Result, Ok, Err}
use Rattle.oat_image.specs.declared.image.Image.{Image}
use Rattle.oat_case.specs.declared.case.Write.{Write}
use Rattle.oat_measure.specs.{Event, Regs, step, declared.opening.Opening.Opening, Monitor.call_numbered, declared.call.MonitorCall.MonitorCall, Shelving.Measurements, Shelving.at_start}
use Rattle.oat_measure.specs.{Shelving.measured_on, declared.stop.StopKind.StopKind}
use Rattle.oat_journal.specs.{declared.end.DeviceEnd.DeviceEnd, declared.end.DeviceEnd.TheVariants.Stopped, Run.Running, Run.found, Run.started, Run.turn, Measured.Run, Measured.dev}
use Rattle.oat_journal.specs.{Measured.start_cells}
use Rattle.oat_a64.specs.declared.event.Event.TheVariants as event

-- ---- one turn

-- the monitor call of an instruction, by what the machine step told and by the registers before it
abbrev pub call_told : Event → Regs → Option MonitorCall
call_told (event.Svc number) r = call_numbered number r
call_told _ r = None

-- a stop leaves the state as it was
abbrev pub kept : Measurements → Result Measurements StopKind → Measurements
kept m (Ok next) = next
kept m (Err stop) = m

abbrev pub stop_of : Result Measurements StopKind → Option StopKind
stop_of (Ok next) = None
stop_of (Err stop) = Some stop

abbrev pub stopped_by : Option StopKind → Running → Running
stopped_by None s = s
stopped_by (Some kind) s = record s { end = Some (Stopped kind) }

-- a run and what its monitor has measured
pub record Progress : Type 0 where
  pub running : Running
  pub measurements : Measurements

-- what a measurement leaves of a run
abbrev pub with_measurement : Progress → Result Measurements StopKind → Progress
with_measurement p result = record { running = stopped_by (stop_of result) p.running; measurements = kept p.measurements result }

-- One turn: the writes that are due, the machine step, what it tells, and the measurement of its monitor call.
abbrev pub measured_turn : List ℕ → List Write → Opening → Progress → Progress
measured_turn code writes o p =
    with_measurement (record p { running = turn code writes p.running })
    (measured_on o p.measurements (call_told (step code (found writes p.running)).event p.running.machine.regs))

-- ---- all turns

abbrev pub going_on : Option DeviceEnd → Progress → Progress → Progress
going_on None p next = next
going_on (Some why) p next = p

-- so many turns; a run that ended stays as it is
unfoldable pub after_turns : List ℕ → List Write → Opening → ℕ → Progress → Progress
after_turns code writes o zero p = p
after_turns code writes o (suc n) p = after_turns code writes o n (going_on p.running.end p (measured_turn code writes o p))

abbrev pub first_of : Image → Opening → List ℤ → Progress
first_of image o inputs = record { running = started image inputs; measurements = at_start o (start_cells image) }

-- what a measured run comes to
abbrev pub progress_of_run : Run → Progress
progress_of_run run = record { running = record run.running { end = run.end }; measurements = run.measurements }

abbrev pub TurnsAreTheRun : Type 0
TurnsAreTheRun =
    (image : Image) (o : Opening) (inputs : List ℤ) (writes : List Write) (n : ℕ)
    → after_turns image.code writes o n (first_of image o inputs) ≡ progress_of_run (dev image o inputs writes n)
