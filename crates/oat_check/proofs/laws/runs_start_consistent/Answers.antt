use Rattle.oat_check.proofs.Keeping.{runs_start_consistent}
use Rattle.oat_check.proofs.laws.runs_start_consistent.Goals as goal

pub returns : goal.returns
returns c = runs_start_consistent
