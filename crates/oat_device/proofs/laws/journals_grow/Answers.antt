use Rattle.oat_device.proofs.DeviceLaws.{journals_grow}
use Rattle.oat_device.proofs.laws.journals_grow.Goals as goal

pub returns : goal.returns
returns c = journals_grow
