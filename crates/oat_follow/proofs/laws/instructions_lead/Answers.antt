use Rattle.oat_follow.proofs.Reaching.{goes}
use Rattle.oat_follow.proofs.laws.instructions_lead.Goals as goal

pub returns : goal.returns
returns c = goes
