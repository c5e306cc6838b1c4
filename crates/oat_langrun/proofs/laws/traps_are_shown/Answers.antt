use Rattle.oat_langrun.proofs.Worked.{traps_stop}
use Rattle.oat_langrun.proofs.laws.traps_are_shown.Goals as goal

pub returns : goal.returns
returns c = traps_stop
