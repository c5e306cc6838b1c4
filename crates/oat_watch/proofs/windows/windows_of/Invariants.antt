use Rattle.std.proofs.Common.{◌≡◌}
use Rattle.oat_watch.specs.Collecting.{IsCollected}
use Rattle.oat_watch.proofs.windows.windows_of.Given as goal

-- the device is on its way through the run that it was on, and all that it made is collected
abbrev pub invariant-loop : goal.invariant-loop
invariant-loop l =
    (l.device ≡ record l.initial.device { turns = l.device.turns }) × IsCollected l.shaped l.device l.collection l.counter × (l.initial.device.case.steps ≡ l.end)
