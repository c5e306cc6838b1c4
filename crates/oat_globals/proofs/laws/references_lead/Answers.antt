use Rattle.oat_globals.proofs.Scalars.{references_lead}
use Rattle.oat_globals.proofs.laws.references_lead.Goals as goal

pub returns : goal.returns
returns c = references_lead
