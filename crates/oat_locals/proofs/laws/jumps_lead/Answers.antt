use Rattle.oat_locals.proofs.Terminators.{jumps-lead}
use Rattle.oat_locals.proofs.laws.jumps_lead.Goals as goal

pub returns : goal.returns
returns c = jumps-lead
