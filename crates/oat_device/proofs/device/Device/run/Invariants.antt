use Rattle.std.proofs.Common.{◌≡◌}
use Rattle.oat_device.proofs.Runs.{OnItsWay}
use Rattle.oat_device.proofs.device.Device.run.Given as goal

-- the device is on its way through the run that it was on
abbrev pub invariant-loop : goal.invariant-loop
invariant-loop l =
    OnItsWay l.self-inside.course l.self-inside.shaped.now l.self-inside.case.now l.self-inside.begin_at l.counter
    × (l.self-inside.shaped.now ≡ l.initial.self-inside.shaped.now) × (l.self-inside.case.now ≡ l.initial.self-inside.case.now)
    × (l.self-inside.begin_at ≡ l.initial.self-inside.begin_at) × (l.self-inside.course.steps ≡ l.end)
