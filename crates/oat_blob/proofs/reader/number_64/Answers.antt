use Rattle.std.proofs.lemmas.Result.{err_from_is_err_and}
use Rattle.oat_blob.proofs.Fixed.{number_front_64, number_stops_64}
use Rattle.oat_blob.proofs.reader.number_64.Goals as goal

pub returns-in_err-field : goal.returns-in_err-field
returns-in_err-field c =
    let p = err_from_is_err_and c.from_residual.result c.from_residual.ensures.1 in
    rw (p.1, p.2) (number_stops_64 c.args.bytes.now c.in_err-field.field-0.0.left c.in_err-field.ensures)

pub returns : goal.returns
returns c = rw c.from_be_bytes.ensures (number_front_64 c.args.bytes.now c.in_ok-field.rest.now c.in_ok-field.field c.in_ok-field.ensures)
