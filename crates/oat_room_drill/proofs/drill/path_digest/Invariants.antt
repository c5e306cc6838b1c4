use Rattle.std.proofs.Common.{take}
use Rattle.sha2.specs.Hashers.{Holds256}
use Rattle.oat_shown.specs.Report.{path_text}
use Rattle.oat_room_drill.proofs.drill.path_digest.Given as goal

abbrev pub invariant-loop-edge : goal.invariant-loop-edge
invariant-loop-edge l = Holds256 l.hasher (path_text l.map (take l.edge-index l.path))
