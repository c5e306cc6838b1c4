use Rattle.std.proofs.lemmas.Result.{err_from_is_err_and}
use Rattle.oat_page.proofs.Lists.{two_of}
use Rattle.oat_shown.specs.{File}
use Rattle.oat_room_attest.proofs.Attesting.{are_attested, refuses_case_of, refuses_code, refuses_program}
use Rattle.oat_room_attest.proofs.attest.attest_files.Goals as goal

pub returns-in_err-checked : goal.returns-in_err-checked
returns-in_err-checked c =
    let p = err_from_is_err_and c.from_residual.result c.from_residual.ensures.1 in
    let files = two_of (λ (f : File). f.limit) c.args.files.now c.index-files-0.result c.index-files-1.result _ _ c.requires c.index-files-0.is c.index-files-1.is in
    rw (p.1, p.2, files) (refuses_program c.index-files-0.result c.index-files-1.result _ c.in_err-checked.ensures)

pub returns-in_err-session_case : goal.returns-in_err-session_case
returns-in_err-session_case c =
    let p = err_from_is_err_and c.from_residual-in_err-session_case.result c.from_residual-in_err-session_case.ensures.1 in
    let files = two_of (λ (f : File). f.limit) c.args.files.now c.index-files-0.result c.index-files-1.result _ _ c.requires c.index-files-0.is c.index-files-1.is in
    rw (p.1, p.2, files) (refuses_case_of c.index-files-0.result c.index-files-1.result _ _ c.in_ok-checked.ensures c.in_err-session_case.ensures)

pub returns-in_err-attested : goal.returns-in_err-attested
returns-in_err-attested c =
    let p = err_from_is_err_and c.from_residual-in_err-attested.result c.from_residual-in_err-attested.ensures.1 in
    let files = two_of (λ (f : File). f.limit) c.args.files.now c.index-files-0.result c.index-files-1.result _ _ c.requires c.index-files-0.is c.index-files-1.is in
    rw (p.1, p.2, files) (refuses_code c.index-files-0.result c.index-files-1.result _ _ _ c.in_ok-checked.ensures c.in_ok-session_case.ensures c.in_err-attested.ensures)

pub returns : goal.returns
returns c =
    let files = two_of (λ (f : File). f.limit) c.args.files.now c.index-files-0.result c.index-files-1.result _ _ c.requires c.index-files-0.is c.index-files-1.is in
    are_attested _ c.index-files-0.result c.index-files-1.result _ _ _ files c.in_ok-checked.ensures c.in_ok-session_case.ensures c.in_ok-attested.ensures.0 c.in_ok-attested.ensures.1
