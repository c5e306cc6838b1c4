use Rattle.oat_langrun.proofs.Runs.{ended_runs_stay}
use Rattle.oat_langrun.proofs.laws.ended_runs_stay.Goals as goal

pub returns : goal.returns
returns c = ended_runs_stay
