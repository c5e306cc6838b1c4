use Rattle.oat_frames.proofs.Worked.{one-call-returns}
use Rattle.oat_frames.proofs.laws.one_call_returns.Goals as goal

pub returns : goal.returns
returns c = one-call-returns
