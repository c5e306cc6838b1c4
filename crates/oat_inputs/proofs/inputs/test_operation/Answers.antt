use Rattle.std.proofs.Common.{ap}
use Rattle.oat_page.specs.Answer.{no_operation}
use Rattle.oat_page.proofs.Working.{RefusesWith-stops}
use Rattle.oat_inputs.specs.Refusals.{RefusesOperation}
use Rattle.oat_inputs.proofs.inputs.test_operation.Goals as goal

pub returns-in_ok-no_operation-in-None : goal.returns-in_ok-no_operation-in-None
returns-in_ok-no_operation-in-None c =
    RefusesWith-stops (RefusesOperation c.args.file.now c.args.shaped.now.map c.args.op) (no_operation c.name.result.now c.args.op) _
    c.in_ok-no_operation-in-None.ensures
    (record { lacks = c.in-None.ensures; told = ap (λ name. no_operation name c.args.op) c.name.ensures })
