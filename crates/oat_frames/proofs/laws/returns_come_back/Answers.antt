use Rattle.oat_frames.proofs.Returning.{returns-come-back}
use Rattle.oat_frames.proofs.laws.returns_come_back.Goals as goal

pub returns : goal.returns
returns c = returns-come-back
