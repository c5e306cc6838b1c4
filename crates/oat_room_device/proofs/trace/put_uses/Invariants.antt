use Rattle.std.proofs.Common.{◌≡◌, ◌++◌, take}
use Rattle.std.specs.List.{flat_map}
use Rattle.oat_room_device.specs.Trace.{use_line}
use Rattle.oat_room_device.proofs.trace.put_uses.Given as goal

abbrev pub invariant-loop-used : goal.invariant-loop-used
invariant-loop-used l = l.text.items ≡ l.initial.text.items ++ flat_map use_line (take l.used-index l.uses)
