use Rattle.oat_a64.proofs.StepBounds.{step_keeps_bounds}
use Rattle.oat_a64.proofs.step_laws.step_keeps_bounds.Goals as goal

pub returns : goal.returns
returns c = step_keeps_bounds
