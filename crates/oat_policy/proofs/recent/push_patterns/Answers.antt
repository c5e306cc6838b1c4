use Rattle.std.proofs.Common.{◌++◌, map, sym, ap, ◌∙◌}
use Rattle.std.proofs.lemmas.List.{append-nil}
use Rattle.oat_policy.specs.Standing.{patterns_of}
use Rattle.oat_policy.proofs.Parting.{one_pushed, all_pushed}
use Rattle.oat_policy.proofs.recent.push_patterns.Goals as goal

pub loop-pattern-init : goal.loop-pattern-init
loop-pattern-init c = sym (append-nil (map (λ pattern. pattern.now) c.args.patterns.now.items))

pub loop-pattern-preserved : goal.loop-pattern-preserved
loop-pattern-preserved c =
    one_pushed (λ pattern. pattern.now) c.push-in-loop-pattern.new.self.items c.loop-pattern.patterns.items c.args.patterns.now.items _ _ c.loop-pattern.pattern-index
    c.in_ok-push-in-Order.ensures.items c.pattern-item.is c.loop-pattern-test.true c.loop-pattern.invariant

pub returns-after-loop-pattern : goal.returns-after-loop-pattern
returns-after-loop-pattern c =
    all_pushed (λ pattern. pattern.now) c.loop-pattern.patterns.items c.args.patterns.now.items _ c.loop-pattern.pattern-index c.loop-pattern-test.false c.loop-pattern.invariant
    ∙ ap (λ ends. map (λ pattern. pattern.now) c.args.patterns.now.items ++ ends) (c.as_slice-pattern-items.ensures ∙ sym (ap patterns_of c.in-Order.is))
