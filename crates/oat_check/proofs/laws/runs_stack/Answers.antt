use Rattle.oat_check.proofs.Sourcing.{runs_stack}
use Rattle.oat_check.proofs.laws.runs_stack.Goals as goal

pub returns : goal.returns
returns c = runs_stack
