use Rattle.std.proofs.Common.{◌∙◌, sym, arith, inl, inr}
use Rattle.oat_langrun.proofs.Making.{end_is, finished, step_follows}
use Rattle.oat_langrun.proofs.run.LangRun.run.Goals as goal
use Rattle.oat_langrun.proofs.run.LangRun.run.Goals.{else-loop-test, then-loop-test+then-has_ended}

pub step-requires-clause-left : goal.step-requires-clause-left
step-requires-clause-left c =
    let left = c.loop.invariant.stands.left in
    let steps = c.loop.invariant.steps in
    let below = c.loop-test.true in
    omega (arith, left, steps, below)

pub step-requires-clause-ready : goal.step-requires-clause-ready
step-requires-clause-ready c = c.loop.invariant.stands.ready

pub loop-preserved : goal.loop-preserved
loop-preserved c =
    let steps = c.loop.invariant.steps in
    let below = c.loop-test.true in
    record {
      stands = step_follows c.loop.self-inside.interpreter c.step.new.self _ c.loop.invariant.stands (omega (arith, steps, below)) c.step.ensures;
      items = c.loop.invariant.items;
      inputs = c.loop.invariant.inputs;
      op = c.loop.invariant.op;
      steps = c.loop.invariant.steps;
    }

pub invariant_of-self : goal.invariant_of-self
invariant_of-self c =
    finished c.loop.self-inside.interpreter _ c.loop.invariant.stands (elim c.loop-test.branch [
      | else-loop-test w ↦ inl (let steps = c.loop.invariant.steps in let past = w.loop-test.false in omega (arith, steps, past))
      | then-loop-test+then-has_ended w ↦ inr (sym w.has_ended.ensures ∙ w.if-has_ended.true)
    ])

pub returns-clause-ended : goal.returns-clause-ended
returns-clause-ended c =
    end_is c.loop.self-inside.interpreter _ (finished c.loop.self-inside.interpreter _ c.loop.invariant.stands (elim c.loop-test.branch [
      | else-loop-test w ↦ inl (let steps = c.loop.invariant.steps in let past = w.loop-test.false in omega (arith, steps, past))
      | then-loop-test+then-has_ended w ↦ inr (sym w.has_ended.ensures ∙ w.if-has_ended.true)
    ]))
