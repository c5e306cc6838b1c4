use Rattle.oat_tool.proofs.PolicySaying.{policy_is_reported, policy_is_said}
use Rattle.oat_tool.proofs.laws.policy.statuses.Goals as goal

pub returns : goal.returns
returns c = record { reported = policy_is_reported; said = policy_is_said }
