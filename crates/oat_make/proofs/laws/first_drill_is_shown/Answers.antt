use Rattle.oat_make.proofs.Worked.{first_drill_is_shown}
use Rattle.oat_make.proofs.laws.first_drill_is_shown.Goals as goal

pub returns : goal.returns
returns c = first_drill_is_shown
