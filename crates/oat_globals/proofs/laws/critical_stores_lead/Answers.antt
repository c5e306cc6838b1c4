use Rattle.oat_globals.proofs.CriticalScalars.{critical_stores_lead}
use Rattle.oat_globals.proofs.laws.critical_stores_lead.Goals as goal

pub returns : goal.returns
returns c = critical_stores_lead
