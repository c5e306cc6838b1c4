use Rattle.oat_make.proofs.Formed.{drills_fit}
use Rattle.oat_make.proofs.laws.drills_fit.Goals as goal

pub returns : goal.returns
returns c = drills_fit
