use Rattle.std.specs.Option.{IsSome}
use Rattle.oat_a64.specs.Step.{word_at}
use Rattle.oat_shape.specs.Lowest.{Lowest, EachBelow}
use Rattle.oat_shape.proofs.apart.lowest_off_code.Given as goal

abbrev pub invariant-loop-place : goal.invariant-loop-place
invariant-loop-place l = Lowest (EachBelow l.places (λ k place. place) (λ k place. IsSome (word_at l.code place)) l.place-index) l.lowest
