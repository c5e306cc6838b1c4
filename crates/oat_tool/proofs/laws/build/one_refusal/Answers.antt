use Rattle.oat_tool.proofs.BuildSaying.{one_build_refusal}
use Rattle.oat_tool.proofs.laws.build.one_refusal.Goals as goal

pub returns : goal.returns
returns c = one_build_refusal
