-- What some instructions of compiled code come to: to where the source is, or to the end of the run.
use Rattle.std.specs.Prelude.{◌≡◌, ◌+◌, ◌≤◌, ℕ, ℤ, List, [], Some}
use Rattle.oat_check.specs.Steps.{Frame, assigned}
use Rattle.oat_follow.specs.{DeviceEnd, Running, Events.MachineEvent, Reaching.RunsTo}
use Rattle.oat_frames.specs.Frames.{World, IsAt}

-- Some instructions, at least one and at most so many, show these events and lead to where the source is, with these inputs left and these outputs put.
pub record ComesTo (w : World) (most : ℕ) (f : Frame) (callers : List Frame) (globals : ℕ → ℕ) (es : List MachineEvent) (asked put : List ℤ) (m : Running) : Type 0 where
  pub to : Running
  pub count : ℕ
  pub some : 1 ≤ count
  pub few : count ≤ most
  pub runs : RunsTo w.image count m to es
  pub inputs : to.inputs ≡ asked
  pub outputs : to.outputs ≡ put
  pub is_at : IsAt w f callers globals to

-- and neither take an input nor put an output
abbrev pub StepsTo : World → ℕ → Frame → List Frame → (ℕ → ℕ) → List MachineEvent → Running → Type 0
StepsTo w most f callers globals es m = ComesTo w most f callers globals es m.inputs m.outputs m

-- Some instructions end the run so, and show nothing.
pub record EndsWithin (w : World) (most : ℕ) (why : DeviceEnd) (m : Running) : Type 0 where
  pub to : Running
  pub count : ℕ
  pub some : 1 ≤ count
  pub few : count ≤ most
  pub runs : RunsTo w.image count m to []
  pub end : to.end ≡ Some why
  pub outputs : to.outputs ≡ m.outputs

-- a local is assigned, and the next line follows
abbrev pub with_result : Frame → ℕ → ℕ → Frame
with_result f x value = record f { line = f.line + 1; locals = assigned f.locals x value }
