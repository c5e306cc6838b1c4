use Rattle.oat_tool.proofs.PolicySaying.{verify_is_put_first, policy_is_headlined}
use Rattle.oat_tool.proofs.laws.policy.carries_the_verdict.Goals as goal

pub returns : goal.returns
returns c = record { first = verify_is_put_first; headline = policy_is_headlined }
