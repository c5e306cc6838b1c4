use Rattle.std.proofs.Common.{◌≡◌}
use Rattle.oat_make.specs.Drill.{drill_state}
use Rattle.oat_make.proofs.case.draws_of_inputs.Given as goal

abbrev pub invariant-loop-k : goal.invariant-loop-k
invariant-loop-k l = l.draws.state ≡ drill_state l.number l.k
