use Rattle.std.proofs.Common.{◌∙◌, ℤ, List, ap}
use Rattle.std.proofs.lemmas.Result.{err_from_is_err_and}
use Rattle.oat_page.proofs.Putting.{PutsAll-front, PutsAll-then}
use Rattle.oat_shown.specs.RunText.{run_text}
use Rattle.oat_room_attest.specs.Attest.{windows_from}
use Rattle.oat_room_attest.proofs.attest.put_attested.Goals as goal

pub returns-in_err-put_pieces : goal.returns-in_err-put_pieces
returns-in_err-put_pieces g c =
    let p = err_from_is_err_and c.from_residual.result c.from_residual.ensures.1 in
    let a = c.args.attested in
    let first = c.in-Ok.ensures ∙ ap (λ (outputs : List ℤ). run_text outputs a.end) c.as_slice.ensures in
    rw (p.1, p.2) (PutsAll-front (run_text a.outputs a.end) (windows_from a.shaped.map c.args.calls 0 a.blobs a.verdicts) _ _ _ _ _ _ first
    c.in_err-put_pieces.ensures)

pub returns : goal.returns
returns g c =
    let a = c.args.attested in
    let first = c.in-Ok.ensures ∙ ap (λ (outputs : List ℤ). run_text outputs a.end) c.as_slice.ensures in
    let put = c.in_ok-put_pieces.ensures in
    PutsAll-then (run_text a.outputs a.end) (windows_from a.shaped.map c.args.calls 0 a.blobs a.verdicts) _ _ _ _ _ _ _ c.put_windows.result first put.1 put.0
    (rw (c.image.ensures.same, c.into_vec.ensures, c.as_slice-2.ensures) at c.put_windows.ensures)
