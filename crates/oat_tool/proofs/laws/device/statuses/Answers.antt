use Rattle.oat_tool.proofs.DeviceSaying.{run_is_shown, run_is_not_rejected}
use Rattle.oat_tool.proofs.laws.device.statuses.Goals as goal

pub returns : goal.returns
returns c = record { ran = run_is_shown; not_rejected = run_is_not_rejected }
