use Rattle.oat_check.proofs.Worked.{two_calls_are_shown}
use Rattle.oat_check.proofs.laws.two_calls_are_shown.Goals as goal

pub returns : goal.returns
returns c = two_calls_are_shown
