use Rattle.oat_langrun.proofs.Runs.{longer_runs_go_on}
use Rattle.oat_langrun.proofs.laws.longer_runs_go_on.Goals as goal

pub returns : goal.returns
returns c = longer_runs_go_on
