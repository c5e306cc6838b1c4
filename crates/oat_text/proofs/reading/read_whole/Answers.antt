use Rattle.std.proofs.lemmas.Result.{err_from_is_err_and}
use Rattle.oat_text.proofs.Joined.{bodies_fail}
use Rattle.oat_text.proofs.reading.read_whole.Goals as goal

pub returns-in_err-bodies_in : goal.returns-in_err-bodies_in
returns-in_err-bodies_in c =
    let p = err_from_is_err_and c.from_residual-in_err-bodies_in.result c.from_residual-in_err-bodies_in.ensures.1 in
    rw (p.1, p.2) (bodies_fail c.args.text.now c.in_ok-outline.outline c.in_err-bodies_in.field-0.0 c.in_ok-outline.ensures c.in_err-bodies_in.ensures)
