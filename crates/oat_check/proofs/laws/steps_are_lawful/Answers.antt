use Rattle.oat_check.proofs.Keeping.{steps_are_lawful}
use Rattle.oat_check.proofs.laws.steps_are_lawful.Goals as goal

pub returns : goal.returns
returns c = steps_are_lawful
