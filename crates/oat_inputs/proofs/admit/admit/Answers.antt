use Rattle.std.proofs.lemmas.Result.{err_from_is_err_and}
use Rattle.oat_inputs.proofs.Admitting.{rejects_image, rejects_shape, rejects_case, rejects_operation}
use Rattle.oat_inputs.proofs.admit.admit.Goals as goal

pub returns-in_err-read : goal.returns-in_err-read
returns-in_err-read c =
    let p = err_from_is_err_and c.from_residual.result c.from_residual.ensures.1 in
    rw (p.1, p.2) (rejects_image c.args.image.now c.args.case.now _ c.in_err-read.ensures)

pub returns-in_err-shaped : goal.returns-in_err-shaped
returns-in_err-shaped c =
    let p = err_from_is_err_and c.from_residual-in_err-shaped.result c.from_residual-in_err-shaped.ensures.1 in
    rw (p.1, p.2) (rejects_shape c.args.image.now c.args.case.now _ _ c.in_ok-read.ensures c.in_err-shaped.ensures)

pub returns-in_err-session_case : goal.returns-in_err-session_case
returns-in_err-session_case c =
    let p = err_from_is_err_and c.from_residual-in_err-session_case.result c.from_residual-in_err-session_case.ensures.1 in
    rw (p.1, p.2) (rejects_case c.args.image.now c.args.case.now _ _ c.in_ok-read.ensures c.in_ok-shaped.ensures.1 c.in_err-session_case.ensures)

pub returns-in_err-test_operation : goal.returns-in_err-test_operation
returns-in_err-test_operation c =
    let p = err_from_is_err_and c.from_residual-in_err-test_operation.result c.from_residual-in_err-test_operation.ensures.1 in
    rw (p.1, p.2) (rejects_operation c.args.image.now c.args.case.now c.in_ok-read.read _ _ c.in_ok-read.ensures c.in_ok-shaped.ensures.1 c.in_ok-session_case.ensures
    (rw c.in_ok-shaped.ensures.0 at c.in_err-test_operation.ensures))

pub returns : goal.returns
returns c = record {
  image_read = rw c.in_ok-shaped.ensures.0 c.in_ok-read.ensures;
  shaped = rw c.in_ok-shaped.ensures.0 c.in_ok-shaped.ensures.1;
  case_read = c.in_ok-session_case.ensures;
  begun = c.in_ok-test_operation.ensures;
}
