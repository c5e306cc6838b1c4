use Rattle.oat_make.proofs.Running.{drills_complete}
use Rattle.oat_make.proofs.laws.drills_complete.Goals as goal

pub returns : goal.returns
returns c = drills_complete
