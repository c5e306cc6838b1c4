use Rattle.oat_device.proofs.Whole.{steps_make_the_run}
use Rattle.oat_device.proofs.laws.steps_make_the_run.Goals as goal

pub returns : goal.returns
returns c = steps_make_the_run
