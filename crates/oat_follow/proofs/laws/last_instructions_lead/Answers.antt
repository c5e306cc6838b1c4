use Rattle.oat_follow.proofs.Reaching.{stops}
use Rattle.oat_follow.proofs.laws.last_instructions_lead.Goals as goal

pub returns : goal.returns
returns c = stops
