use Rattle.std.proofs.Common.{◌∙◌, sym, arith, inl, inr}
use Rattle.oat_meaning.proofs.{Making.end_is, Making.finished, Making.stands_consistent, Making.step_follows, source.Source.run.Goals.else-loop-test}
use Rattle.oat_meaning.proofs.{source.Source.run.Goals.then-loop-test+then-has_ended}
use Rattle.oat_meaning.proofs.source.Source.run.Goals as goal

pub step-requires-clause-left : goal.step-requires-clause-left
step-requires-clause-left c =
    let left = c.loop.invariant.stands.left in
    let steps = c.loop.invariant.steps in
    let below = c.loop-test.true in
    omega (arith, left, steps, below)

pub step-requires-clause-consistent : goal.step-requires-clause-consistent
step-requires-clause-consistent c = stands_consistent c.loop.self-inside.interpreter _ c.loop.invariant.stands

pub loop-preserved : goal.loop-preserved
loop-preserved c =
    let steps = c.loop.invariant.steps in
    let below = c.loop-test.true in
    record {
      stands = step_follows c.loop.self-inside.interpreter c.step.new.self _ c.loop.invariant.stands (omega (arith, steps, below)) c.step.ensures;
      checked = c.loop.invariant.checked;
      inputs = c.loop.invariant.inputs;
      op = c.loop.invariant.op;
      steps = c.loop.invariant.steps;
    }

pub invariant_of-self : goal.invariant_of-self
invariant_of-self c =
    finished c.loop.self-inside.interpreter _ c.loop.invariant.stands (elim c.loop-test.branch [
      | else-loop-test w ↦ inl (let steps = c.loop.invariant.steps in let past = w.loop-test.false in omega (arith, steps, past))
      | then-loop-test+then-has_ended w ↦ inr (sym w.has_ended.ensures ∙ w.if-has_ended.true)
    ])

pub returns-clause-ended : goal.returns-clause-ended
returns-clause-ended c =
    end_is c.loop.self-inside.interpreter _ (finished c.loop.self-inside.interpreter _ c.loop.invariant.stands (elim c.loop-test.branch [
      | else-loop-test w ↦ inl (let steps = c.loop.invariant.steps in let past = w.loop-test.false in omega (arith, steps, past))
      | then-loop-test+then-has_ended w ↦ inr (sym w.has_ended.ensures ∙ w.if-has_ended.true)
    ]))
