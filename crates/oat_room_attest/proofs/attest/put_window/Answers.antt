use Rattle.std.proofs.Common.{refl}
use Rattle.std.proofs.lemmas.Result.{err_from_is_err_and}
use Rattle.oat_page.proofs.Putting.{PutsAll-front, PutsAll-then}
use Rattle.oat_shown.specs.{BlobLine.blob_line, Report.report_text}
use Rattle.oat_room_attest.proofs.attest.put_window.Goals as goal

pub returns-in_err-put_blob : goal.returns-in_err-put_blob
returns-in_err-put_blob g c =
    let p = err_from_is_err_and c.from_residual.result c.from_residual.ensures.1 in
    rw (p.1, p.2) (PutsAll-front (blob_line c.args.blob) (report_text c.args.map.now c.args.number c.args.verdict.now) (blob_line c.args.blob)
    _ _ _ _ _ refl c.in_err-put_blob.ensures)

pub returns : goal.returns
returns g c =
    let put = c.in_ok-put_blob.ensures in
    PutsAll-then (blob_line c.args.blob) (report_text c.args.map.now c.args.number c.args.verdict.now) (blob_line c.args.blob)
    _ _ _ _ _ _ c.put_verdict.result refl put.1 put.0 c.put_verdict.ensures
