use Rattle.oat_locals.proofs.Plain.{outputs-lead}
use Rattle.oat_locals.proofs.laws.outputs_lead.Goals as goal

pub returns : goal.returns
returns c = outputs-lead
