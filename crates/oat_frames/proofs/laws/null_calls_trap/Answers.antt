use Rattle.oat_frames.proofs.IndirectCalling.{null-calls-trap}
use Rattle.oat_frames.proofs.laws.null_calls_trap.Goals as goal

pub returns : goal.returns
returns c = null-calls-trap
