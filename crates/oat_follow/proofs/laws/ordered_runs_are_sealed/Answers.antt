use Rattle.oat_follow.proofs.OnDevice.{ordered_runs_are_sealed}
use Rattle.oat_follow.proofs.laws.ordered_runs_are_sealed.Goals as goal

pub returns : goal.returns
returns c = ordered_runs_are_sealed
