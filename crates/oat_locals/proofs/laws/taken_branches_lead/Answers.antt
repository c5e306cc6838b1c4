use Rattle.oat_locals.proofs.Terminators.{taken-branches-lead}
use Rattle.oat_locals.proofs.laws.taken_branches_lead.Goals as goal

pub returns : goal.returns
returns c = taken-branches-lead
