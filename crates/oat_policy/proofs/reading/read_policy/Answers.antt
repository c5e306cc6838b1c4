use Rattle.std.proofs.Common.{List, Ok, ap, sym, ◌∙◌, arith}
use Rattle.std.proofs.lemmas.{Bool.eqb-true, Result.err_from_is_err_and}
use Rattle.oat_policy.specs.{declared.policy.PolicyRule.PolicyRule, Reading.policy_of}
use Rattle.oat_policy.proofs.Loop.{next_line, stops, is_done}
use Rattle.oat_policy.proofs.reading.read_policy.Goals as goal

pub lines-preserved : goal.lines-preserved
lines-preserved c = record {
  so_far = next_line c.lines.number c.lines.rules.items c.take_line.new.rules.items c.lines.rest.now c.first_line.result.0.now c.first_line.result.1.now (policy_of c.args.text.now) c.first_line.ensures.lines c.in_ok-take_line.ensures c.lines.invariant.so_far;
  fits = omega (arith, c.first_line.ensures.shorter);
}

pub returns-in_err-take_line : goal.returns-in_err-take_line
returns-in_err-take_line c =
    let p = err_from_is_err_and c.from_residual.result c.from_residual.ensures.1 in
    record {
      exact = rw (p.1, p.2) (stops c.in_err-take_line.field-0.0 c.lines.number c.lines.rules.items c.lines.rest.now c.first_line.result.0.now c.first_line.result.1.now (policy_of c.args.text.now) c.first_line.ensures.lines c.in_err-take_line.ensures c.lines.invariant.so_far);
    }

pub returns : goal.returns
returns c = record {
  exact = is_done c.lines.number c.lines.rules.items c.lines.rest.now (policy_of c.args.text.now) (eqb-true _ _ (sym c.is_empty.ensures ∙ c.lines-test.false)) c.lines.invariant.so_far
      ∙ ap (λ (rules : List PolicyRule). Ok rules) (sym c.from_vec.ensures);
}
