use Rattle.oat_globals.proofs.Operations.{starts_stand}
use Rattle.oat_globals.proofs.laws.starts_stand.Goals as goal

pub returns : goal.returns
returns c = starts_stand
