use Rattle.std.proofs.Common.{◌≡◌, ◌∙◌, ◌++◌, ℕ, List, ap, sym, subst}
use Rattle.std.proofs.lemmas.Result.{err_from_is_err_and}
use Rattle.oat_page.proofs.Putting.{PutsAll-front, PutsAll-then}
use Rattle.oat_shown.specs.{verdict_text, Verdict, line, put_of, PutsAll, Report.path_in, Report.path_text}
use Rattle.oat_room_verify.proofs.Settling.{accepted}
use Rattle.oat_room_verify.proofs.report.put_report.Goals as goal

pub returns-in_err-put_all : goal.returns-in_err-put_all
returns-in_err-put_all g c = λ verdict tells.
    let p = err_from_is_err_and c.from_residual.result c.from_residual.ensures.1 in
    let first : c.as_slice.result.now ≡ line (verdict_text c.args.settled.now.serial verdict) = c.as_slice.ensures.value ∙ c.in-Ok.ensures verdict tells.told in
    rw (p.1, p.2) (PutsAll-front (line (verdict_text c.args.settled.now.serial verdict)) (path_text c.args.shaped.now.map (path_in verdict)) c.as_slice.result.now _ _ _ _ _ first c.in_err-put_all.ensures)

pub returns-in-Accept : goal.returns-in-Accept
returns-in-Accept g c = λ verdict tells.
    let found = accepted verdict (sym tells.told ∙ c.in-Accept.is) in
    let first : c.as_slice.result.now ≡ line (verdict_text c.args.settled.now.serial verdict) = c.as_slice.ensures.value ∙ c.in-Ok.ensures verdict tells.told in
    let put = c.in_ok-put_all.ensures in
    let path : path_text c.args.shaped.now.map found.0 ≡ path_text c.args.shaped.now.map (path_in verdict) = ap (λ (v : Verdict). path_text c.args.shaped.now.map (path_in v)) (sym found.1) in
    subst (λ (text : List ℕ). PutsAll (line (verdict_text c.args.settled.now.serial verdict) ++ text) (put_of g.S.Sink.told g.S.Sink.faults c.args.sink.now c.put_path.new.sink) c.put_path.result) path
    (PutsAll-then (line (verdict_text c.args.settled.now.serial verdict)) (path_text c.args.shaped.now.map found.0) c.as_slice.result.now _ _ _ _ _ _ c.put_path.result first put.1 put.0
    (c.put_path.ensures found.0 (tells.walked found.0 found.1)))
