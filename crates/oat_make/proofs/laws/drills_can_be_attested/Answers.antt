use Rattle.oat_make.proofs.Written.{drills_can_be_attested}
use Rattle.oat_make.proofs.laws.drills_can_be_attested.Goals as goal

pub returns : goal.returns
returns c = drills_can_be_attested
