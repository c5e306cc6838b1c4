use Rattle.std.proofs.Common.{refl}
use Rattle.std.proofs.lemmas.Result.{err_from_is_err_and}
use Rattle.oat_page.proofs.Putting.{PutsAll-front, PutsAll-then}
use Rattle.oat_room_verify.proofs.policy.put_ruled.Goals as goal

pub returns-in_err-put_report : goal.returns-in_err-put_report
returns-in_err-put_report g c = λ verdict tells.
    let p = err_from_is_err_and c.from_residual.result c.from_residual.ensures.1 in
    rw (p.1, p.2) (PutsAll-front _ _ _ _ _ _ _ _ refl (c.in_err-put_report.ensures verdict tells))

pub returns : goal.returns
returns g c = λ verdict tells.
    let first = c.in_ok-put_report.ensures verdict tells in
    PutsAll-then _ _ _ _ _ _ _ _ _ _ refl first.1 first.0 c.put_pieces.ensures
