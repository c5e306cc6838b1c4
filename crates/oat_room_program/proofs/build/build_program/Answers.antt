use Rattle.std.proofs.lemmas.Result.{err_from_is_err_and}
use Rattle.oat_page.proofs.Lists.{one_of}
use Rattle.oat_programs.specs.{File}
use Rattle.oat_room_program.proofs.Building.{stops_at_program, works_on_checked}
use Rattle.oat_room_program.proofs.build.build_program.Goals as goal

pub returns-in_err-checked : goal.returns-in_err-checked
returns-in_err-checked c =
    let p = err_from_is_err_and c.from_residual.result c.from_residual.ensures.1 in
    let files = one_of (λ (f : File). f.limit) c.args.files.now c.index-files-0.result _ c.requires c.index-files-0.is in
    rw (p.1, p.2, files) (stops_at_program c.index-files-0.result _ c.in_err-checked.ensures)

pub returns : goal.returns
returns c =
    let files = one_of (λ (f : File). f.limit) c.args.files.now c.index-files-0.result _ c.requires c.index-files-0.is in
    rw files (works_on_checked _ c.index-files-0.result _ c.image_page.result c.in_ok-checked.ensures c.image_page.ensures)
