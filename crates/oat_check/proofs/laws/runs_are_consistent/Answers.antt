use Rattle.oat_check.proofs.Sourcing.{runs_are_consistent}
use Rattle.oat_check.proofs.laws.runs_are_consistent.Goals as goal

pub returns : goal.returns
returns c = runs_are_consistent
