use Rattle.std.specs.Ordering.{nat_cmp}
use Rattle.oat_image.specs.{address_of, begins}
use Rattle.oat_shape.specs.{Lowest.Lowest, Lowest.EachBelow, Parts.BeginsFirst, Parts.EndIsBegun}
use Rattle.oat_shape.proofs.Loops.{Seen}
use Rattle.oat_shape.proofs.paired.lowest_unpaired.Given as goal

abbrev pub invariant-loop-row : goal.invariant-loop-row
invariant-loop-row l = record {
  seen : Seen nat_cmp begins l.rows l.row-index l.seen;
  scanned : Lowest (EachBelow l.rows (λ k row. address_of row) (λ k row. BeginsFirst l.rows k row × EndIsBegun l.rows row) l.row-index) l.lowest;
}
