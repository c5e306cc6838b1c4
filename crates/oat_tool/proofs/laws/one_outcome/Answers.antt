use Rattle.oat_tool.proofs.One as one
use Rattle.oat_tool.proofs.laws.one_outcome.Goals as goal

pub returns : goal.returns
returns c = one.one_outcome
