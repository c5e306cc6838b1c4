use Rattle.std.proofs.Common.{◌≡◌, ◌++◌, length}
use Rattle.std.specs.Vec.Iter.{into_iter_items}
use Rattle.oat_shown.specs.{Adds}
use Rattle.oat_room_attest.specs.Attest.{windows_from}
use Rattle.oat_room_attest.proofs.attest.put_windows.Given as goal

abbrev pub invariant-loop-blob : goal.invariant-loop-blob
invariant-loop-blob g l =
    (l.serial ≡ length l.yielded)
    × (g.S.Sink.faults l.sink ≡ g.S.Sink.faults l.initial.sink)
    × Adds (g.S.Sink.told l.initial.sink) (windows_from l.map l.calls 0 l.yielded l.verdicts) (g.S.Sink.told l.sink)
    × (l.yielded ++ into_iter_items l.blob-iterator ≡ into_iter_items l.initial.blob-iterator)
