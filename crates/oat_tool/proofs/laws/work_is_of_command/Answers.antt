use Rattle.oat_tool.proofs.Answering as answering
use Rattle.oat_tool.proofs.laws.work_is_of_command.Goals as goal

pub returns : goal.returns
returns c = answering.work_is_of_command
