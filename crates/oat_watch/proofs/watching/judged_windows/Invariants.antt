use Rattle.std.proofs.Common.{◌≡◌, length}
use Rattle.oat_watch.specs.Watching.{IsWatched, OfEach}
use Rattle.oat_watch.proofs.watching.judged_windows.Given as goal

-- so many windows are judged, each as it is to be
abbrev pub invariant-loop-serial : goal.invariant-loop-serial
invariant-loop-serial l = (length l.shown.items ≡ l.serial) × OfEach l.shown.items (IsWatched l.shaped l.case l.device.begin_at)
