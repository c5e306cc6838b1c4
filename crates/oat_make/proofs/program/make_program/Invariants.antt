use Rattle.std.proofs.Common.{◌≡◌, suc}
use Rattle.oat_make.specs.Drill.{drill_state}
use Rattle.oat_make.proofs.Made.{so_far}
use Rattle.oat_make.proofs.program.make_program.Given as goal

abbrev pub invariant-loop-j : goal.invariant-loop-j
invariant-loop-j l = record { drawn : l.draws.state ≡ drill_state l.number (suc l.j); made : l.text.items ≡ so_far l.number l.j }
