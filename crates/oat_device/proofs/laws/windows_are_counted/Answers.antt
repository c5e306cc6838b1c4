use Rattle.oat_device.proofs.Counting.{windows_are_counted}
use Rattle.oat_device.proofs.laws.windows_are_counted.Goals as goal

pub returns : goal.returns
returns c = windows_are_counted
