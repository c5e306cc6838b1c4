use Rattle.std.proofs.Common.{sym, ◌∙◌}
use Rattle.std.proofs.lemmas.{Bool.eqb-true, Result.err_from_is_err_and}
use Rattle.oat_text.proofs.Passing.{next_line, stops, ended}
use Rattle.oat_text.proofs.pass.go_over.Goals as goal

pub lines-preserved : goal.lines-preserved
lines-preserved g c =
    next_line g.P.Pass.takes c.args.pass.now c.lines.pass c.take_line.new.pass c.args.text.now c.lines.rest.now c.first_line.result.0.now c.first_line.result.1.now c.lines.number
    c.first_line.ensures.lines c.first_line.ensures.shorter c.in_ok-take_line.ensures c.lines.invariant

pub returns-in_err-take_line-clause-taken : goal.returns-in_err-take_line-clause-taken
returns-in_err-take_line-clause-taken g c =
    let p = err_from_is_err_and c.from_residual.result c.from_residual.ensures.1 in
    rw (p.1, p.2)
    (stops g.P.Pass.takes c.args.pass.now c.lines.pass c.args.text.now c.lines.rest.now c.first_line.result.0.now c.first_line.result.1.now c.lines.number c.in_err-take_line.field-0.0
    c.first_line.ensures.lines c.in_err-take_line.ensures c.lines.invariant)

pub returns-clause-taken : goal.returns-clause-taken
returns-clause-taken g c =
    (ended g.P.Pass.takes c.args.pass.now c.lines.pass c.args.text.now c.lines.rest.now c.lines.number (eqb-true _ _ (sym c.is_empty.ensures ∙ c.lines-test.false)) c.lines.invariant).0

pub returns-clause-end : goal.returns-clause-end
returns-clause-end g c =
    (ended g.P.Pass.takes c.args.pass.now c.lines.pass c.args.text.now c.lines.rest.now c.lines.number (eqb-true _ _ (sym c.is_empty.ensures ∙ c.lines-test.false)) c.lines.invariant).1
