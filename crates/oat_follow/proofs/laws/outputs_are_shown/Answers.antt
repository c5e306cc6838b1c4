use Rattle.oat_follow.proofs.Showing.{outputs_are_shown}
use Rattle.oat_follow.proofs.laws.outputs_are_shown.Goals as goal

pub returns : goal.returns
returns c = outputs_are_shown
