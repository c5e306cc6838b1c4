use Rattle.oat_frames.proofs.Calling.{calls-lay-frames}
use Rattle.oat_frames.proofs.laws.calls_lay_frames.Goals as goal

pub returns : goal.returns
returns c = calls-lay-frames
