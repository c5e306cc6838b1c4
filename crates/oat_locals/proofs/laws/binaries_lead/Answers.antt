use Rattle.oat_locals.proofs.Binaries.{binaries-lead}
use Rattle.oat_locals.proofs.laws.binaries_lead.Goals as goal

pub returns : goal.returns
returns c = binaries-lead
