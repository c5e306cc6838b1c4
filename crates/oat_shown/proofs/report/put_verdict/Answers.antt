use Rattle.std.proofs.Common.{◌≡◌, ◌∙◌, ap}
use Rattle.std.proofs.lemmas.Result.{err_from_is_err_and}
use Rattle.oat_report.specs.VerdictLine.{verdict_text}
use Rattle.oat_page.specs.Outcome.{line}
use Rattle.oat_page.proofs.Putting.{PutsAll-front, PutsAll-then}
use Rattle.oat_shown.specs.Report.{path_in, path_text}
use Rattle.oat_shown.proofs.report.put_verdict.Goals as goal

pub returns-in_err-put_all : goal.returns-in_err-put_all
returns-in_err-put_all g c =
    let p = err_from_is_err_and c.from_residual.result c.from_residual.ensures.1 in
    let verdict = c.args.verdict.now in
    let first : c.as_slice.result.now ≡ line (verdict_text c.args.number verdict) = c.as_slice.ensures.value ∙ c.in-Ok.ensures in
    rw (p.1, p.2) (PutsAll-front (line (verdict_text c.args.number verdict)) (path_text c.args.map.now (path_in verdict)) c.as_slice.result.now
    _ _ _ _ _ first c.in_err-put_all.ensures)

pub returns-in-Accept : goal.returns-in-Accept
returns-in-Accept g c =
    let put = c.in_ok-put_all.ensures in
    let verdict = c.args.verdict.now in
    let first : c.as_slice.result.now ≡ line (verdict_text c.args.number verdict) = c.as_slice.ensures.value ∙ c.in-Ok.ensures in
    let path = ap path_in c.in-Accept.is in
    PutsAll-then (line (verdict_text c.args.number verdict)) (path_text c.args.map.now (path_in verdict)) c.as_slice.result.now
    _ _ _ _ _ _ c.put_edges.result first put.1 put.0 (rw path (rw c.as_slice-in-Accept.ensures at c.put_edges.ensures))
