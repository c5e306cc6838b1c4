use Rattle.oat_check.proofs.Turning.{operations_are_low}
use Rattle.oat_check.proofs.laws.operations_are_low.Goals as goal

pub returns : goal.returns
returns c = operations_are_low
