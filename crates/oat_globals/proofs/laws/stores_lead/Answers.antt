use Rattle.oat_globals.proofs.Scalars.{stores_lead}
use Rattle.oat_globals.proofs.laws.stores_lead.Goals as goal

pub returns : goal.returns
returns c = stores_lead
