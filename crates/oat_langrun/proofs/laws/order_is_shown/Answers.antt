use Rattle.oat_langrun.proofs.Worked.{steps_are_ordered}
use Rattle.oat_langrun.proofs.laws.order_is_shown.Goals as goal

pub returns : goal.returns
returns c = steps_are_ordered
