use Rattle.oat_langrun.proofs.Runs.{runs_are_good}
use Rattle.oat_langrun.proofs.laws.runs_are_good.Goals as goal

pub returns : goal.returns
returns c = runs_are_good c.elements_are_numbered.ensures
