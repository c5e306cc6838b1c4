use Rattle.std.proofs.Common.{◌≡◌, map, take}
use Rattle.oat_policy.specs.Standing.{all_patterns}
use Rattle.oat_policy.proofs.recent.patterns_in.Given as goal

abbrev pub invariant-loop-rule : goal.invariant-loop-rule
invariant-loop-rule l = map (λ pattern. pattern.now) l.patterns.items ≡ all_patterns (take l.rule-index l.rule-items)
