use Rattle.oat_check.proofs.Sourcing.{runs_pass}
use Rattle.oat_check.proofs.laws.runs_pass.Goals as goal

pub returns : goal.returns
returns c = runs_pass
