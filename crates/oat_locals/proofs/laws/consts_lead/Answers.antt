use Rattle.oat_locals.proofs.Plain.{consts-lead}
use Rattle.oat_locals.proofs.laws.consts_lead.Goals as goal

pub returns : goal.returns
returns c = consts-lead
