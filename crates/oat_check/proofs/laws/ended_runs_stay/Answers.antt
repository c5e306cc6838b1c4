use Rattle.oat_check.proofs.Sourcing.{ended_runs_stay}
use Rattle.oat_check.proofs.laws.ended_runs_stay.Goals as goal

pub returns : goal.returns
returns c = ended_runs_stay
