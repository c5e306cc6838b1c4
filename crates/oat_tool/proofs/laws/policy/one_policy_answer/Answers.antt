use Rattle.oat_tool.proofs.PolicySaying as room
use Rattle.oat_tool.proofs.laws.policy.one_policy_answer.Goals as goal

pub returns : goal.returns
returns c = room.one_policy_answer
