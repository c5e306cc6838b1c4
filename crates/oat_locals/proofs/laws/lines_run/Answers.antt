use Rattle.oat_locals.proofs.Worked.{lines-run}
use Rattle.oat_locals.proofs.laws.lines_run.Goals as goal

pub returns : goal.returns
returns c = lines-run
