use Rattle.std.proofs.Common.{ap}
use Rattle.oat_page.specs.Answer.{refused}
use Rattle.oat_page.proofs.Working.{RefusesWith-stops}
use Rattle.oat_inputs.specs.Refusals.{RefusesShape, rule_reason}
use Rattle.oat_inputs.proofs.inputs.shaped_of.Goals as goal

pub returns-in-Rule : goal.returns-in-Rule
returns-in-Rule c =
    let broken = rw (c.in-Err.ensures.handed_back, c.in-Rule.is) at c.in-Err.ensures.fault in
    RefusesWith-stops (RefusesShape c.args.file.now c.args.image) (refused c.name.result.now (rule_reason c.in-Rule.number c.in-Rule.at)) _
    c.in_ok-rule-in-Rule.ensures
    (record {
      number = c.in-Rule.number;
      at = c.in-Rule.at;
      broken = broken;
      told = ap (λ name. refused name (rule_reason c.in-Rule.number c.in-Rule.at)) c.name.ensures;
    })
