use Rattle.std.proofs.Common.{refl, sym, ◌∙◌, arith}
use Rattle.std.proofs.lemmas.{Bool.eqb-true, Result.err_from_is_err_and}
use Rattle.oat_case.specs.{Draft.gathered, Reading.case_of}
use Rattle.oat_case.proofs.Loop.{next_line, stops, is_done}
use Rattle.oat_case.proofs.reading.case_in.Goals as goal

pub lines-init : goal.lines-init
lines-init c = record { so_far = rw c.new-draft.ensures refl; fits = omega arith }

pub lines-preserved : goal.lines-preserved
lines-preserved c = record {
  so_far = next_line c.lines.number (gathered c.lines.draft) (gathered c.take_line.new.self) c.lines.rest.now c.first_line.result.0.now c.first_line.result.1.now (case_of c.args.text.now) c.first_line.ensures.lines c.in_ok-take_line.ensures c.lines.invariant.so_far;
  fits = omega (arith, c.first_line.ensures.shorter);
}

pub returns-in_err-take_line : goal.returns-in_err-take_line
returns-in_err-take_line c =
    let p = err_from_is_err_and c.from_residual.result c.from_residual.ensures.1 in
    rw (p.1, p.2) (stops c.in_err-take_line.field-0.0 c.lines.number (gathered c.lines.draft) c.lines.rest.now c.first_line.result.0.now c.first_line.result.1.now (case_of c.args.text.now) c.first_line.ensures.lines c.in_err-take_line.ensures c.lines.invariant.so_far)

pub returns : goal.returns
returns c =
    is_done c.finish.result c.lines.number (gathered c.lines.draft) c.lines.rest.now (case_of c.args.text.now) (eqb-true _ _ (sym c.is_empty.ensures ∙ c.lines-test.false)) c.finish.ensures c.lines.invariant.so_far
