use Rattle.oat_globals.proofs.Scalars.{loads_lead}
use Rattle.oat_globals.proofs.laws.loads_lead.Goals as goal

pub returns : goal.returns
returns c = loads_lead
