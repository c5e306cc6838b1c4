use Rattle.oat_locals.proofs.Plain.{inputs-lead}
use Rattle.oat_locals.proofs.laws.inputs_lead.Goals as goal

pub returns : goal.returns
returns c = inputs-lead
