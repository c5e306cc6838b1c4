use Rattle.std.proofs.Common.{take}
use Rattle.std.specs.List.{All}
use Rattle.oat_verify.specs.{IsName, Function}
use Rattle.oat_report.proofs.typed.look_at_functions.Given as goal

abbrev pub invariant-loop-function : goal.invariant-loop-function
invariant-loop-function l = All (λ (function : Function). IsName function.name) (take l.function-index l.functions)
