use Rattle.oat_tool.proofs.TraceSaying.{trace_is_shown}
use Rattle.oat_tool.proofs.laws.trace.status.Goals as goal

pub returns : goal.returns
returns c = trace_is_shown c.writes_can_be_made.ensures
