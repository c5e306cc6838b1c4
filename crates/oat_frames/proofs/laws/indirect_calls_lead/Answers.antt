use Rattle.oat_frames.proofs.IndirectCalling.{indirect-calls-lead}
use Rattle.oat_frames.proofs.laws.indirect_calls_lead.Goals as goal

pub returns : goal.returns
returns c = indirect-calls-lead
