use Rattle.oat_frames.proofs.Calling.{deep-calls-trap}
use Rattle.oat_frames.proofs.laws.deep_calls_trap.Goals as goal

pub returns : goal.returns
returns c = deep-calls-trap
