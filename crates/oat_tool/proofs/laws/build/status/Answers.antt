use Rattle.oat_tool.proofs.BuildSaying.{build_is_shown}
use Rattle.oat_tool.proofs.laws.build.status.Goals as goal

pub returns : goal.returns
returns c = build_is_shown
