use Rattle.std.proofs.Common.{◌≡◌, ◌++◌, map, take}
use Rattle.oat_policy.proofs.recent.push_patterns.Given as goal

abbrev pub invariant-loop-pattern : goal.invariant-loop-pattern
invariant-loop-pattern l = map (λ pattern. pattern.now) l.patterns.items ≡ map (λ pattern. pattern.now) l.initial.patterns.items ++ take l.pattern-index l.pattern-items
