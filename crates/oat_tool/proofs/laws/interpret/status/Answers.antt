use Rattle.oat_tool.proofs.RunSaying.{source_run_is_shown}
use Rattle.oat_tool.proofs.laws.interpret.status.Goals as goal

pub returns : goal.returns
returns c = source_run_is_shown
