use Rattle.oat_device.proofs.DeviceLaws.{measured_runs_stay}
use Rattle.oat_device.proofs.laws.measured_runs_stay.Goals as goal

pub returns : goal.returns
returns c = measured_runs_stay
