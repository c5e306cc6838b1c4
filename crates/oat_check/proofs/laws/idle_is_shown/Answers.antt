use Rattle.oat_check.proofs.Worked.{idle_is_shown}
use Rattle.oat_check.proofs.laws.idle_is_shown.Goals as goal

pub returns : goal.returns
returns c = idle_is_shown
