use Rattle.oat_check.proofs.Places.{lines_are_allowed}
use Rattle.oat_check.proofs.laws.lines_are_allowed.Goals as goal

pub returns : goal.returns
returns c = lines_are_allowed
