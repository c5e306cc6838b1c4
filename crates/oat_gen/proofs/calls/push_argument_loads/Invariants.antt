use Rattle.std.proofs.Common.{◌≡◌, ◌++◌, drop}
use Rattle.oat_globals.specs.{argument_loads}
use Rattle.oat_gen.proofs.calls.push_argument_loads.Given as goal

abbrev pub invariant-loop-register : goal.invariant-loop-register
invariant-loop-register l = l.out.items ++ argument_loads l.register (drop l.register l.args) ≡ l.initial.out.items ++ argument_loads 0 l.args
