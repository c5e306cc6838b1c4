use Rattle.oat_check.proofs.Worked.{operations_are_as_said}
use Rattle.oat_check.proofs.laws.operations_are_as_said.Goals as goal

pub returns : goal.returns
returns c = operations_are_as_said
