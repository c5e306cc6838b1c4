use Rattle.std.proofs.lemmas.Result.{err_from_is_err_and}
use Rattle.oat_page.proofs.Lists.{two_of}
use Rattle.oat_shown.specs.{File}
use Rattle.oat_room_device.proofs.Running.{stops_rejecting, runs_admitted}
use Rattle.oat_room_device.proofs.device.device.Goals as goal

pub returns-in_err-admitted : goal.returns-in_err-admitted
returns-in_err-admitted c =
    let p = err_from_is_err_and c.from_residual.result c.from_residual.ensures.1 in
    let files = two_of (λ (f : File). f.limit) c.args.files.now c.index-files-0.result c.index-files-1.result _ _ c.requires c.index-files-0.is c.index-files-1.is in
    rw (p.1, p.2, files) (stops_rejecting c.index-files-0.result c.index-files-1.result _ c.in_err-admitted.ensures)

pub returns : goal.returns
returns c =
    let files = two_of (λ (f : File). f.limit) c.args.files.now c.index-files-0.result c.index-files-1.result _ _ c.requires c.index-files-0.is c.index-files-1.is in
    rw files (runs_admitted c.index-files-0.result c.index-files-1.result _ _ _ c.in_ok-admitted.ensures c.in_ok-run_case.ensures)
