use Rattle.oat_match.proofs.DeepCalls.{deep_indirect_calls_trap}
use Rattle.oat_match.proofs.laws.deep_indirect_calls_trap.Goals as goal

pub returns : goal.returns
returns c = deep_indirect_calls_trap
