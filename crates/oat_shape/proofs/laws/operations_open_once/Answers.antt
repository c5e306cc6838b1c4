use Rattle.oat_shape.proofs.Laid.{opens_once}
use Rattle.oat_shape.proofs.laws.operations_open_once.Goals as goal

pub returns : goal.returns
returns c = opens_once
