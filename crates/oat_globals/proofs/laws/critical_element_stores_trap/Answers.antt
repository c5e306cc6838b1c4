use Rattle.oat_globals.proofs.CriticalElements.{critical_element_stores_trap}
use Rattle.oat_globals.proofs.laws.critical_element_stores_trap.Goals as goal

pub returns : goal.returns
returns c = critical_element_stores_trap
