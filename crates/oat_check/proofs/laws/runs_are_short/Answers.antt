use Rattle.oat_check.proofs.Short.{runs_are_short}
use Rattle.oat_check.proofs.laws.runs_are_short.Goals as goal

pub returns : goal.returns
returns c = runs_are_short
