use Rattle.std.proofs.Common.{◌≡◌, length, take, ◌-◌, ◌≤◌}
use Rattle.oat_world.specs.Outside.{Adds}
use Rattle.oat_page.proofs.put.put_all.Given as goal

abbrev pub invariant-loop-done : goal.invariant-loop-done
invariant-loop-done g l =
    (l.done ≤ length l.text)
    × (g.S.Sink.faults l.sink ≡ g.S.Sink.faults l.initial.sink)
    × Adds (g.S.Sink.told l.initial.sink) (take l.done l.text) (g.S.Sink.told l.sink)

abbrev pub decreases-loop-done : goal.decreases-loop-done
decreases-loop-done g l = length l.text - l.done
