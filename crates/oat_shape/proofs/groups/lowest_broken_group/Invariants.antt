use Rattle.oat_image.specs.{address_of}
use Rattle.oat_shape.specs.{Lowest.Lowest, Lowest.EachBelow, Groups.IsGroup}
use Rattle.oat_shape.proofs.groups.lowest_broken_group.Given as goal

abbrev pub invariant-loop-row : goal.invariant-loop-row
invariant-loop-row l = Lowest (EachBelow l.rows (λ k row. address_of row) (λ k row. IsGroup l.code l.cells row) l.row-index) l.lowest
