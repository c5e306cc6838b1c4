use Rattle.oat_frames.proofs.Starting.{start-leads}
use Rattle.oat_frames.proofs.laws.start_leads.Goals as goal

pub returns : goal.returns
returns c = start-leads
