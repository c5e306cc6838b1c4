use Rattle.oat_globals.proofs.Elements.{element_stores_lead}
use Rattle.oat_globals.proofs.laws.element_stores_lead.Goals as goal

pub returns : goal.returns
returns c = element_stores_lead
