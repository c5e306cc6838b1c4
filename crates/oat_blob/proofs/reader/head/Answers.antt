use Rattle.std.proofs.lemmas.Result.{err_from_is_err_and}
use Rattle.oat_blob.proofs.Form.{at_digest, at_hash, at_nonce, at_op, at_opening, at_serial, at_version, behind_digest, behind_hash, behind_nonce, behind_op, behind_opening, behind_serial}
use Rattle.oat_blob.proofs.Form.{behind_version, head_front}
use Rattle.oat_blob.proofs.reader.head.Goals as goal

pub returns-in_err-rest : goal.returns-in_err-rest
returns-in_err-rest c =
    let p = err_from_is_err_and c.from_residual.result c.from_residual.ensures.1 in
    rw (p.1, p.2) (at_opening c.args.bytes.now c.in_err-rest.field-0.0.left c.in_err-rest.ensures)

pub returns-in_err-numbered : goal.returns-in_err-numbered
returns-in_err-numbered c =
    let p = err_from_is_err_and c.from_residual-in_err-numbered.result c.from_residual-in_err-numbered.ensures.1 in
    rw (p.1, p.2) (behind_opening c.args.bytes.now c.in_ok-rest.rest.now c.in_err-numbered.field-0.0.left c.in_ok-rest.ensures (at_version c.in_ok-rest.rest.now c.in_err-numbered.field-0.0.left c.in_err-numbered.ensures))

pub returns-in_err-op : goal.returns-in_err-op
returns-in_err-op c =
    let p = err_from_is_err_and c.from_residual-in_err-op.result c.from_residual-in_err-op.ensures.1 in
    rw (p.1, p.2) (behind_opening c.args.bytes.now c.in_ok-rest.rest.now c.in_err-op.field-0.0.left c.in_ok-rest.ensures (behind_version c.in_ok-rest.rest.now c.in_ok-numbered.rest.now c.in_ok-numbered.numbered c.in_err-op.field-0.0.left c.in_ok-numbered.ensures (at_op c.in_ok-numbered.numbered c.in_ok-numbered.rest.now c.in_err-op.field-0.0.left c.in_err-op.ensures)))

pub returns-in_err-serial : goal.returns-in_err-serial
returns-in_err-serial c =
    let p = err_from_is_err_and c.from_residual-in_err-serial.result c.from_residual-in_err-serial.ensures.1 in
    rw (p.1, p.2) (behind_opening c.args.bytes.now c.in_ok-rest.rest.now c.in_err-serial.field-0.0.left c.in_ok-rest.ensures (behind_version c.in_ok-rest.rest.now c.in_ok-numbered.rest.now c.in_ok-numbered.numbered c.in_err-serial.field-0.0.left c.in_ok-numbered.ensures (behind_op c.in_ok-numbered.numbered c.in_ok-numbered.rest.now c.in_ok-op.rest.now c.in_ok-op.op c.in_err-serial.field-0.0.left c.in_ok-op.ensures (at_serial c.in_ok-numbered.numbered c.in_ok-op.rest.now c.in_err-serial.field-0.0.left c.in_err-serial.ensures))))

pub returns-in_err-nonce : goal.returns-in_err-nonce
returns-in_err-nonce c =
    let p = err_from_is_err_and c.from_residual-in_err-nonce.result c.from_residual-in_err-nonce.ensures.1 in
    rw (p.1, p.2) (behind_opening c.args.bytes.now c.in_ok-rest.rest.now c.in_err-nonce.field-0.0.left c.in_ok-rest.ensures (behind_version c.in_ok-rest.rest.now c.in_ok-numbered.rest.now c.in_ok-numbered.numbered c.in_err-nonce.field-0.0.left c.in_ok-numbered.ensures (behind_op c.in_ok-numbered.numbered c.in_ok-numbered.rest.now c.in_ok-op.rest.now c.in_ok-op.op c.in_err-nonce.field-0.0.left c.in_ok-op.ensures (behind_serial c.in_ok-numbered.numbered c.in_ok-op.rest.now c.in_ok-serial.rest.now c.in_ok-serial.serial c.in_err-nonce.field-0.0.left c.in_ok-serial.ensures (at_nonce c.in_ok-serial.rest.now c.in_err-nonce.field-0.0.left c.in_err-nonce.ensures)))))

pub returns-in_err-digest : goal.returns-in_err-digest
returns-in_err-digest c =
    let p = err_from_is_err_and c.from_residual-in_err-digest.result c.from_residual-in_err-digest.ensures.1 in
    rw (p.1, p.2) (behind_opening c.args.bytes.now c.in_ok-rest.rest.now c.in_err-digest.field-0.0.left c.in_ok-rest.ensures (behind_version c.in_ok-rest.rest.now c.in_ok-numbered.rest.now c.in_ok-numbered.numbered c.in_err-digest.field-0.0.left c.in_ok-numbered.ensures (behind_op c.in_ok-numbered.numbered c.in_ok-numbered.rest.now c.in_ok-op.rest.now c.in_ok-op.op c.in_err-digest.field-0.0.left c.in_ok-op.ensures (behind_serial c.in_ok-numbered.numbered c.in_ok-op.rest.now c.in_ok-serial.rest.now c.in_ok-serial.serial c.in_err-digest.field-0.0.left c.in_ok-serial.ensures (behind_nonce c.in_ok-serial.rest.now c.in_ok-nonce.nonce c.in_ok-nonce.rest.now c.in_err-digest.field-0.0.left c.in_ok-nonce.ensures (at_digest c.in_ok-nonce.rest.now c.in_err-digest.field-0.0.left c.in_err-digest.ensures))))))

pub returns-in_err-hash : goal.returns-in_err-hash
returns-in_err-hash c =
    let p = err_from_is_err_and c.from_residual-in_err-hash.result c.from_residual-in_err-hash.ensures.1 in
    rw (p.1, p.2) (behind_opening c.args.bytes.now c.in_ok-rest.rest.now c.in_err-hash.field-0.0.left c.in_ok-rest.ensures (behind_version c.in_ok-rest.rest.now c.in_ok-numbered.rest.now c.in_ok-numbered.numbered c.in_err-hash.field-0.0.left c.in_ok-numbered.ensures (behind_op c.in_ok-numbered.numbered c.in_ok-numbered.rest.now c.in_ok-op.rest.now c.in_ok-op.op c.in_err-hash.field-0.0.left c.in_ok-op.ensures (behind_serial c.in_ok-numbered.numbered c.in_ok-op.rest.now c.in_ok-serial.rest.now c.in_ok-serial.serial c.in_err-hash.field-0.0.left c.in_ok-serial.ensures (behind_nonce c.in_ok-serial.rest.now c.in_ok-nonce.nonce c.in_ok-nonce.rest.now c.in_err-hash.field-0.0.left c.in_ok-nonce.ensures (behind_digest c.in_ok-nonce.rest.now c.in_ok-digest.digest c.in_ok-digest.rest.now c.in_err-hash.field-0.0.left c.in_ok-digest.ensures (at_hash c.in_ok-digest.rest.now c.in_err-hash.field-0.0.left c.in_err-hash.ensures)))))))

pub returns-in_err-violation : goal.returns-in_err-violation
returns-in_err-violation c =
    let p = err_from_is_err_and c.from_residual-in_err-violation.result c.from_residual-in_err-violation.ensures.1 in
    rw (p.1, p.2) (behind_opening c.args.bytes.now c.in_ok-rest.rest.now c.in_err-violation.field-0.0.left c.in_ok-rest.ensures (behind_version c.in_ok-rest.rest.now c.in_ok-numbered.rest.now c.in_ok-numbered.numbered c.in_err-violation.field-0.0.left c.in_ok-numbered.ensures (behind_op c.in_ok-numbered.numbered c.in_ok-numbered.rest.now c.in_ok-op.rest.now c.in_ok-op.op c.in_err-violation.field-0.0.left c.in_ok-op.ensures (behind_serial c.in_ok-numbered.numbered c.in_ok-op.rest.now c.in_ok-serial.rest.now c.in_ok-serial.serial c.in_err-violation.field-0.0.left c.in_ok-serial.ensures (behind_nonce c.in_ok-serial.rest.now c.in_ok-nonce.nonce c.in_ok-nonce.rest.now c.in_err-violation.field-0.0.left c.in_ok-nonce.ensures (behind_digest c.in_ok-nonce.rest.now c.in_ok-digest.digest c.in_ok-digest.rest.now c.in_err-violation.field-0.0.left c.in_ok-digest.ensures (behind_hash c.in_ok-digest.rest.now c.in_ok-hash.hash c.in_ok-hash.rest.now c.in_err-violation.field-0.0.left c.in_ok-hash.ensures c.in_err-violation.ensures)))))))

pub returns : goal.returns
returns c =
    head_front c.args.bytes.now c.in_ok-rest.rest.now c.in_ok-numbered.rest.now c.in_ok-op.rest.now c.in_ok-serial.rest.now c.in_ok-nonce.rest.now c.in_ok-digest.rest.now c.in_ok-hash.rest.now c.in_ok-violation.rest.now
    c.in_ok-numbered.numbered c.in_ok-op.op c.in_ok-serial.serial c.in_ok-nonce.nonce c.in_ok-digest.digest c.in_ok-hash.hash c.in_ok-violation.violation
    c.in_ok-rest.ensures c.in_ok-numbered.ensures c.in_ok-op.ensures c.in_ok-serial.ensures c.in_ok-nonce.ensures c.in_ok-digest.ensures c.in_ok-hash.ensures c.in_ok-violation.ensures
