use Rattle.oat_frames.proofs.Calling.{calls-lead}
use Rattle.oat_frames.proofs.laws.calls_lead.Goals as goal

pub returns : goal.returns
returns c = calls-lead
