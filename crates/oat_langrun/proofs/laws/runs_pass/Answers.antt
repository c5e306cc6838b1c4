use Rattle.oat_langrun.proofs.Runs.{runs_pass}
use Rattle.oat_langrun.proofs.laws.runs_pass.Goals as goal

pub returns : goal.returns
returns c = runs_pass c.elements_are_numbered.ensures
