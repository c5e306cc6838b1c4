use Rattle.oat_tool.proofs.OneTrace as room
use Rattle.oat_tool.proofs.laws.trace.one_trace.Goals as goal

pub returns : goal.returns
returns c = room.one_trace
