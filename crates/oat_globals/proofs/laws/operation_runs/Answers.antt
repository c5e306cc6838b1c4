use Rattle.oat_globals.proofs.Worked.{operation_runs}
use Rattle.oat_globals.proofs.laws.operation_runs.Goals as goal

pub returns : goal.returns
returns c = operation_runs
