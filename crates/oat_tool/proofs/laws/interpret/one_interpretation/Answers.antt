use Rattle.oat_tool.proofs.RunSaying as room
use Rattle.oat_tool.proofs.laws.interpret.one_interpretation.Goals as goal

pub returns : goal.returns
returns c = room.one_interpretation
