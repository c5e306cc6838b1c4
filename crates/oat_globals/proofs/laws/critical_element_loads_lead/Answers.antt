use Rattle.oat_globals.proofs.CriticalElements.{critical_element_loads_lead}
use Rattle.oat_globals.proofs.laws.critical_element_loads_lead.Goals as goal

pub returns : goal.returns
returns c = critical_element_loads_lead
