use Rattle.oat_globals.proofs.CriticalElements.{critical_element_stores_lead}
use Rattle.oat_globals.proofs.laws.critical_element_stores_lead.Goals as goal

pub returns : goal.returns
returns c = critical_element_stores_lead
