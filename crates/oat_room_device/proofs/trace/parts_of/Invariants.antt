use Rattle.std.proofs.Common.{◌≡◌, take}
use Rattle.oat_room_device.specs.Trace.{parts_from}
use Rattle.oat_room_device.proofs.trace.parts_of.Given as goal

abbrev pub invariant-loop-serial : goal.invariant-loop-serial
invariant-loop-serial l = l.text.items ≡ parts_from l.map l.calls 0 (take l.serial l.windows)
