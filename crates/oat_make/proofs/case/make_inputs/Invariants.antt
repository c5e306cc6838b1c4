use Rattle.std.proofs.Common.{◌≡◌, ◌+◌, map}
use Rattle.std.specs.List.{range_with_len}
use Rattle.oat_make.specs.Drill.{drill_state, drill_input}
use Rattle.oat_make.proofs.case.make_inputs.Given as goal

abbrev pub invariant-loop-k : goal.invariant-loop-k
invariant-loop-k l = record { drawn : l.draws.state ≡ drill_state l.number (17 + l.k); made : l.inputs.items ≡ map (drill_input l.number) (range_with_len 0 l.k) }
