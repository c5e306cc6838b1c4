use Rattle.std.proofs.Common.{◌≡◌, map, take}
use Rattle.oat_shown.specs.{edge_line}
use Rattle.oat_room_attest.proofs.json_lines.path_lines.Given as goal

abbrev pub invariant-loop-edge : goal.invariant-loop-edge
invariant-loop-edge l = l.lines.items ≡ map (edge_line l.flow) (take l.edge-index l.path)
