use Rattle.oat_shape.proofs.Refusals.{shape_is_decided}
use Rattle.oat_shape.proofs.laws.shape_is_decided.Goals as goal

pub returns : goal.returns
returns c = shape_is_decided
