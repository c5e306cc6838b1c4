use Rattle.oat_globals.proofs.Elements.{element_loads_lead}
use Rattle.oat_globals.proofs.laws.element_loads_lead.Goals as goal

pub returns : goal.returns
returns c = element_loads_lead
