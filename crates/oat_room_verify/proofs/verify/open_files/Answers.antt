use Rattle.std.proofs.lemmas.Result.{err_from_is_err_and}
use Rattle.oat_page.proofs.Lists.{three_of}
use Rattle.oat_shown.specs.{File}
use Rattle.oat_room_verify.proofs.Verifying.{stops_admitting, stops_blob}
use Rattle.oat_room_verify.proofs.verify.open_files.Goals as goal

pub returns-in_err-admitted : goal.returns-in_err-admitted
returns-in_err-admitted c =
    let p = err_from_is_err_and c.from_residual.result c.from_residual.ensures.1 in
    let files = three_of (λ (f : File). f.limit) c.args.files.now c.index-files-0.result c.index-files-1.result c.index-files-2.result _ _ _ c.requires
    c.index-files-0.is c.index-files-1.is c.index-files-2.is in
    rw (p.1, p.2, files) (stops_admitting c.index-files-0.result c.index-files-1.result c.index-files-2.result _ c.in_err-admitted.ensures)

pub returns-in_err-digits : goal.returns-in_err-digits
returns-in_err-digits c =
    let p = err_from_is_err_and c.from_residual-in_err-digits.result c.from_residual-in_err-digits.ensures.1 in
    let files = three_of (λ (f : File). f.limit) c.args.files.now c.index-files-0.result c.index-files-1.result c.index-files-2.result _ _ _ c.requires
    c.index-files-0.is c.index-files-1.is c.index-files-2.is in
    rw (p.1, p.2, files) (stops_blob c.index-files-0.result c.index-files-1.result c.index-files-2.result _ _ _ c.in_ok-admitted.ensures c.in_err-digits.ensures)

pub returns : goal.returns
returns c = record {
  image = c.index-files-0.result;
  case = c.index-files-1.result;
  blob = c.index-files-2.result;
  are = three_of (λ (f : File). f.limit) c.args.files.now c.index-files-0.result c.index-files-1.result c.index-files-2.result _ _ _ c.requires
      c.index-files-0.is c.index-files-1.is c.index-files-2.is;
  admitted = c.in_ok-admitted.ensures;
  spelled = c.in_ok-digits.ensures;
}
