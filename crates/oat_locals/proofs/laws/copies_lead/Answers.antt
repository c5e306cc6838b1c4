use Rattle.oat_locals.proofs.Plain.{copies-lead}
use Rattle.oat_locals.proofs.laws.copies_lead.Goals as goal

pub returns : goal.returns
returns c = copies-lead
