use Rattle.oat_globals.proofs.CriticalScalars.{critical_loads_lead}
use Rattle.oat_globals.proofs.laws.critical_loads_lead.Goals as goal

pub returns : goal.returns
returns c = critical_loads_lead
