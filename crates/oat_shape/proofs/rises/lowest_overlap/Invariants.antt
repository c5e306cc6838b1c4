use Rattle.oat_image.specs.{address_of}
use Rattle.oat_shape.specs.{Lowest.Lowest, Lowest.EachBelow, Parts.IsBehind}
use Rattle.oat_shape.proofs.RowRules.{EndsBefore}
use Rattle.oat_shape.proofs.rises.lowest_overlap.Given as goal

abbrev pub invariant-loop-row : goal.invariant-loop-row
invariant-loop-row l = record {
  scanned : Lowest (EachBelow l.rows (λ k row. address_of row) (IsBehind l.rows) l.row-index) l.lowest;
  end : EndsBefore l.rows l.row-index l.end;
}
