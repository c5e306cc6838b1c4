use Rattle.std.proofs.lemmas.Result.{err_from_is_err_and}
use Rattle.oat_page.proofs.Lists.{two_of}
use Rattle.oat_programs.specs.{File}
use Rattle.oat_room_program.proofs.Interpreting.{stops_at_program, stops_at_case, interprets_taken}
use Rattle.oat_room_program.proofs.interpret.interpret.Goals as goal

pub returns-in_err-checked : goal.returns-in_err-checked
returns-in_err-checked c =
    let p = err_from_is_err_and c.from_residual.result c.from_residual.ensures.1 in
    let files = two_of (λ (f : File). f.limit) c.args.files.now c.index-files-0.result c.index-files-1.result _ _ c.requires c.index-files-0.is c.index-files-1.is in
    rw (p.1, p.2, files) (stops_at_program c.index-files-0.result c.index-files-1.result _ c.in_err-checked.ensures)

pub returns-in_err-session_case : goal.returns-in_err-session_case
returns-in_err-session_case c =
    let p = err_from_is_err_and c.from_residual-in_err-session_case.result c.from_residual-in_err-session_case.ensures.1 in
    let files = two_of (λ (f : File). f.limit) c.args.files.now c.index-files-0.result c.index-files-1.result _ _ c.requires c.index-files-0.is c.index-files-1.is in
    rw (p.1, p.2, files) (stops_at_case c.index-files-0.result c.index-files-1.result _ _ c.in_ok-checked.ensures c.in_err-session_case.ensures)

pub returns : goal.returns
returns c =
    let files = two_of (λ (f : File). f.limit) c.args.files.now c.index-files-0.result c.index-files-1.result _ _ c.requires c.index-files-0.is c.index-files-1.is in
    rw files (interprets_taken c.index-files-0.result c.index-files-1.result _ _ _ c.in_ok-checked.ensures c.in_ok-session_case.ensures c.in_ok-interpret_case.ensures)
