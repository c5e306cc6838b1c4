use Rattle.oat_globals.proofs.Elements.{elements_trap}
use Rattle.oat_globals.proofs.laws.elements_trap.Goals as goal

pub returns : goal.returns
returns c = elements_trap
