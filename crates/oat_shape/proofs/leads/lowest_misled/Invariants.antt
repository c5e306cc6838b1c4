use Rattle.oat_image.specs.{address_of}
use Rattle.oat_shape.specs.{Lowest.Lowest, Lowest.EachBelow, MapRules.LeadsToPlaces}
use Rattle.oat_shape.proofs.leads.lowest_misled.Given as goal

abbrev pub invariant-loop-row : goal.invariant-loop-row
invariant-loop-row l = Lowest (EachBelow l.rows (λ k row. address_of row) (λ k row. LeadsToPlaces l.entries l.starts row) l.row-index) l.lowest
