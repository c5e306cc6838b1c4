use Rattle.std.proofs.Common.{subst}
use Rattle.std.specs.List.{All}
use Rattle.std.proofs.lemmas.{List.take_all, List.Elements.All-more}
use Rattle.oat_verify.specs.{IsName, Function}
use Rattle.oat_report.proofs.typed.look_at_functions.Goals as goal

abbrev HasFunctionName : Function → Type 0
HasFunctionName function = IsName function.name

pub loop-function-preserved : goal.loop-function-preserved
loop-function-preserved c =
    All-more HasFunctionName c.args.functions.now c.loop-function.function-index c.function-item.result c.loop-function-test.true c.loop-function.invariant
    (subst HasFunctionName c.function-item.is c.look_at_function.ensures)

pub returns : goal.returns
returns c = subst (All HasFunctionName) (take_all c.loop-function.function-index c.args.functions.now c.loop-function-test.false) c.loop-function.invariant
