use Rattle.std.proofs.Common.{◌∙◌, arith}
use Rattle.std.proofs.lemmas.Result.{err_from_is_err_and}
use Rattle.oat_page.proofs.Putting.{Adds-more, Puts-fails}
use Rattle.oat_page.proofs.put.put_all.Goals as goal

pub returns-in_err-done : goal.returns-in_err-done
returns-in_err-done g c =
    let p = err_from_is_err_and c.from_residual.result c.from_residual.ensures.1 in
    rw (p.1, p.2) (Puts-fails c.args.text.now c.loop-done.done _ _ _ _ _ _ _ c.loop-done.invariant.1 c.loop-done.invariant.2 c.in_err-done.ensures.puts)

pub loop-done-preserved : goal.loop-done-preserved
loop-done-preserved g c =
    (omega (arith, c.in_ok-done.ensures.puts.0), c.in_ok-done.ensures.puts.3 ∙ c.loop-done.invariant.1, Adds-more c.args.text.now c.loop-done.done _ _ _ _ c.loop-done.invariant.2 c.in_ok-done.ensures.puts.2)
