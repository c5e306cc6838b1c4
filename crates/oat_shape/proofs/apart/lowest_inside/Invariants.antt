use Rattle.oat_shape.specs.{Shape.CutsNoGroup, Lowest.Lowest, Lowest.EachBelow}
use Rattle.oat_shape.proofs.apart.lowest_inside.Given as goal

abbrev pub invariant-loop-place : goal.invariant-loop-place
invariant-loop-place l = Lowest (EachBelow l.places (λ k place. place) (λ k place. CutsNoGroup l.rows place) l.place-index) l.lowest
