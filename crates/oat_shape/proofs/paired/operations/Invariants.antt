use Rattle.std.specs.Ordering.{nat_cmp}
use Rattle.oat_image.specs.{begins}
use Rattle.oat_shape.proofs.Loops.{Seen}
use Rattle.oat_shape.proofs.paired.operations.Given as goal

abbrev pub invariant-loop-row : goal.invariant-loop-row
invariant-loop-row l = Seen nat_cmp begins l.rows l.row-index l.begun
