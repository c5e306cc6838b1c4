use Rattle.std.proofs.Common.{◌≡◌, ◌++◌, take}
use Rattle.oat_shown.specs.Report.{path_text}
use Rattle.oat_room_device.proofs.trace.put_path.Given as goal

abbrev pub invariant-loop-edge : goal.invariant-loop-edge
invariant-loop-edge l = l.text.items ≡ l.initial.text.items ++ path_text l.map (take l.edge-index l.path)
