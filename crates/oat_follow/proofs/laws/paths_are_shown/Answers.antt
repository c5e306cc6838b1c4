use Rattle.oat_follow.proofs.Showing.{paths_are_shown}
use Rattle.oat_follow.proofs.laws.paths_are_shown.Goals as goal

pub returns : goal.returns
returns c = paths_are_shown
