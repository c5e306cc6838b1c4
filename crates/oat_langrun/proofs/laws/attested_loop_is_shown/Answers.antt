use Rattle.oat_langrun.proofs.Worked.{attested_loop_runs}
use Rattle.oat_langrun.proofs.laws.attested_loop_is_shown.Goals as goal

pub returns : goal.returns
returns c = attested_loop_runs
