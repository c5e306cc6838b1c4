use Rattle.std.proofs.Common.{◌≡◌, ◌+◌, take}
use Rattle.std.specs.List.{sum_by}
use Rattle.oat_ir.proofs.size.room_behind_all.Given as goal

abbrev pub invariant-loop-item : goal.invariant-loop-item
invariant-loop-item g l = l.left + sum_by g.C.Counted.size (take l.item-index l.items) ≡ l.room
