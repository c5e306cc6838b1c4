use Rattle.std.proofs.Common.{map, ap, ◌∙◌}
use Rattle.oat_policy.specs.Standing.{all_patterns}
use Rattle.oat_policy.proofs.Parting.{one_rule, all_rules}
use Rattle.oat_policy.proofs.recent.patterns_in.Goals as goal

pub loop-rule-init : goal.loop-rule-init
loop-rule-init c = ap (map (λ pattern. pattern.now)) c.new-patterns.ensures.items

pub loop-rule-preserved : goal.loop-rule-preserved
loop-rule-preserved c = one_rule _ _ _ c.loop-rule.rule-index c.rule-item.result c.rule-item.is c.loop-rule-test.true c.loop-rule.invariant c.in_ok-push_patterns.ensures

pub returns : goal.returns
returns c = all_rules _ _ c.loop-rule.rule-index c.loop-rule-test.false c.loop-rule.invariant ∙ ap all_patterns c.as_slice-rule-items.ensures
