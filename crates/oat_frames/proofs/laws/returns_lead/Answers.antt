use Rattle.oat_frames.proofs.Returning.{returns-lead}
use Rattle.oat_frames.proofs.laws.returns_lead.Goals as goal

pub returns : goal.returns
returns c = returns-lead
