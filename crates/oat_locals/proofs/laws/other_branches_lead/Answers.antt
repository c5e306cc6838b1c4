use Rattle.oat_locals.proofs.Terminators.{other-branches-lead}
use Rattle.oat_locals.proofs.laws.other_branches_lead.Goals as goal

pub returns : goal.returns
returns c = other-branches-lead
