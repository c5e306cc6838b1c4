use Rattle.std.proofs.lemmas.Result.{err_from_is_err_and}
use Rattle.oat_blob.proofs.Fixed.{cell_stops, expected_stops, found_stops, violation_front}
use Rattle.oat_blob.proofs.reader.violation_fields.Goals as goal

pub returns-in_err-cell : goal.returns-in_err-cell
returns-in_err-cell c =
    let p = err_from_is_err_and c.from_residual.result c.from_residual.ensures.1 in
    rw (p.1, p.2) (cell_stops c.args.bytes.now c.in_err-cell.field-0.0.left c.in_err-cell.ensures)

pub returns-in_err-expected : goal.returns-in_err-expected
returns-in_err-expected c =
    let p = err_from_is_err_and c.from_residual-in_err-expected.result c.from_residual-in_err-expected.ensures.1 in
    rw (p.1, p.2) (expected_stops c.args.bytes.now c.in_ok-cell.rest.now c.in_ok-cell.cell c.in_err-expected.field-0.0.left c.in_ok-cell.ensures c.in_err-expected.ensures)

pub returns-in_err-found : goal.returns-in_err-found
returns-in_err-found c =
    let p = err_from_is_err_and c.from_residual-in_err-found.result c.from_residual-in_err-found.ensures.1 in
    rw (p.1, p.2) (found_stops c.args.bytes.now c.in_ok-cell.rest.now c.in_ok-expected.rest.now c.in_ok-cell.cell c.in_ok-expected.expected c.in_err-found.field-0.0.left c.in_ok-cell.ensures c.in_ok-expected.ensures c.in_err-found.ensures)

pub returns : goal.returns
returns c =
    violation_front c.args.bytes.now c.in_ok-cell.rest.now c.in_ok-expected.rest.now c.in_ok-found.rest.now c.in_ok-cell.cell c.in_ok-expected.expected c.in_ok-found.found
    c.in_ok-cell.ensures c.in_ok-expected.ensures c.in_ok-found.ensures
