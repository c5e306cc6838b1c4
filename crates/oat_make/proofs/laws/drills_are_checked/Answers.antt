use Rattle.oat_make.proofs.Formed.{drills_are_checked}
use Rattle.oat_make.proofs.laws.drills_are_checked.Goals as goal

pub returns : goal.returns
returns c = drills_are_checked
