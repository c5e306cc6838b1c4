use Rattle.oat_check.proofs.Worked.{rules_are_tried}
use Rattle.oat_check.proofs.laws.rules_are_tried.Goals as goal

pub returns : goal.returns
returns c = rules_are_tried
