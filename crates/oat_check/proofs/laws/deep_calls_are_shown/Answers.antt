use Rattle.oat_check.proofs.Worked.{deep_calls_are_shown}
use Rattle.oat_check.proofs.laws.deep_calls_are_shown.Goals as goal

pub returns : goal.returns
returns c = deep_calls_are_shown
