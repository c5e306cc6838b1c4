use Rattle.oat_shape.proofs.Laid.{starts}
use Rattle.oat_shape.proofs.laws.operations_start.Goals as goal

pub returns : goal.returns
returns c = starts
