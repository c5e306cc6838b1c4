use Rattle.std.specs.Prelude.{Contains, take}
use Rattle.oat_match.specs.{Func}
use Rattle.oat_build.specs.Naming.{HasNames}
use Rattle.oat_build.proofs.names.look_at_names.Given as goal

abbrev pub invariant-loop-func : goal.invariant-loop-func
invariant-loop-func l = (func : Func) → Contains (take l.func-index l.func-items) func → HasNames func
