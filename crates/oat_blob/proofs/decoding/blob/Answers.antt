use Rattle.std.proofs.Common.{length, refl}
use Rattle.std.proofs.lemmas.Result.{err_from_is_err_and}
use Rattle.oat_bits.specs.Bits.{bits_in}
use Rattle.oat_blob.specs.Shown.{targets_in}
use Rattle.oat_blob.proofs.Form.{as_blob, at_bits, at_head, at_targets, behind_bits, behind_head, behind_targets, blob_front, covered_read, empty, not_empty, offset_at, offset_behind}
use Rattle.oat_blob.proofs.decoding.blob.Goals as goal

pub returns-in_err-head-clause-form : goal.returns-in_err-head-clause-form
returns-in_err-head-clause-form c =
    let p = err_from_is_err_and c.from_residual.result c.from_residual.ensures.1 in
    rw (p.1, p.2) (offset_at c.args.bytes.now c.in_err-head.field-0.0.left (at_head c.args.bytes.now c.in_err-head.field-0.0.left c.in_err-head.ensures)).1

pub returns-in_err-bits-clause-form : goal.returns-in_err-bits-clause-form
returns-in_err-bits-clause-form c =
    let p = err_from_is_err_and c.from_residual-in_err-bits.result c.from_residual-in_err-bits.ensures.1 in
    rw (p.1, p.2) (offset_at c.args.bytes.now c.in_err-bits.field-0.0.left (behind_head c.args.bytes.now c.in_ok-head.rest.now c.in_ok-head.head c.in_err-bits.field-0.0.left c.in_ok-head.ensures (at_bits c.in_ok-head.rest.now c.in_err-bits.field-0.0.left c.in_err-bits.ensures.read))).1

pub returns-in_err-targets-clause-form : goal.returns-in_err-targets-clause-form
returns-in_err-targets-clause-form c =
    let p = err_from_is_err_and c.from_residual-in_err-targets.result c.from_residual-in_err-targets.ensures.1 in
    rw (p.1, p.2) (offset_at c.args.bytes.now c.in_err-targets.field-0.0.left (behind_head c.args.bytes.now c.in_ok-head.rest.now c.in_ok-head.head c.in_err-targets.field-0.0.left c.in_ok-head.ensures (behind_bits c.in_ok-head.rest.now c.in_ok-bits.rest.now (bits_in c.in_ok-bits.bits.count c.in_ok-bits.bits.bytes.now) c.in_err-targets.field-0.0.left c.in_ok-bits.ensures.read (at_targets c.in_ok-bits.rest.now c.in_err-targets.field-0.0.left c.in_err-targets.ensures.read)))).1

pub returns-in_err-mac-clause-form : goal.returns-in_err-mac-clause-form
returns-in_err-mac-clause-form c =
    let p = err_from_is_err_and c.from_residual-in_err-mac.result c.from_residual-in_err-mac.ensures.1 in
    rw (p.1, p.2) (offset_at c.args.bytes.now c.in_err-mac.field-0.0.left (behind_head c.args.bytes.now c.in_ok-head.rest.now c.in_ok-head.head c.in_err-mac.field-0.0.left c.in_ok-head.ensures (behind_bits c.in_ok-head.rest.now c.in_ok-bits.rest.now (bits_in c.in_ok-bits.bits.count c.in_ok-bits.bits.bytes.now) c.in_err-mac.field-0.0.left c.in_ok-bits.ensures.read (behind_targets c.in_ok-bits.rest.now c.in_ok-targets.rest.now (targets_in c.in_ok-targets.targets.count c.in_ok-targets.targets.bytes.now) c.in_err-mac.field-0.0.left c.in_ok-targets.ensures.read (c.in_err-mac.ensures))))).1

pub returns-then-not-is_empty-clause-form : goal.returns-then-not-is_empty-clause-form
returns-then-not-is_empty-clause-form c =
    let front = (blob_front c.args.bytes.now c.in_ok-head.rest.now c.in_ok-bits.rest.now c.in_ok-targets.rest.now c.in_ok-mac.rest.now c.in_ok-head.head (bits_in c.in_ok-bits.bits.count c.in_ok-bits.bits.bytes.now) (targets_in c.in_ok-targets.targets.count c.in_ok-targets.targets.bytes.now) c.in_ok-mac.mac c.in_ok-head.ensures c.in_ok-bits.ensures.read c.in_ok-targets.ensures.read c.in_ok-mac.ensures) in
    (offset_behind c.args.bytes.now c.in_ok-mac.rest.now _ front (not_empty (length c.in_ok-mac.rest.now) c.if-not-is_empty.ensures)).1

pub invariant_of-result : goal.invariant_of-result
invariant_of-result c =
    let front = (blob_front c.args.bytes.now c.in_ok-head.rest.now c.in_ok-bits.rest.now c.in_ok-targets.rest.now c.in_ok-mac.rest.now c.in_ok-head.head (bits_in c.in_ok-bits.bits.count c.in_ok-bits.bits.bytes.now) (targets_in c.in_ok-targets.targets.count c.in_ok-targets.targets.bytes.now) c.in_ok-mac.mac c.in_ok-head.ensures c.in_ok-bits.ensures.read c.in_ok-targets.ensures.read c.in_ok-mac.ensures) in
    record {
      whole = covered_read c.args.bytes.now c.in_ok-targets.rest.now c.in_ok-mac.rest.now c.in_ok-mac.mac c.split_at.result.0.now (record { head = c.in_ok-head.head; bits = (bits_in c.in_ok-bits.bits.count c.in_ok-bits.bits.bytes.now); targets = (targets_in c.in_ok-targets.targets.count c.in_ok-targets.targets.bytes.now) }) _ front.spelled c.in_ok-mac.ensures.spelled refl c.split_at.ensures.front;
      bits_held = c.in_ok-bits.ensures.size;
      targets_held = c.in_ok-targets.ensures.size;
    }

pub returns-clause-found : goal.returns-clause-found
returns-clause-found c =
    let front = (blob_front c.args.bytes.now c.in_ok-head.rest.now c.in_ok-bits.rest.now c.in_ok-targets.rest.now c.in_ok-mac.rest.now c.in_ok-head.head (bits_in c.in_ok-bits.bits.count c.in_ok-bits.bits.bytes.now) (targets_in c.in_ok-targets.targets.count c.in_ok-targets.targets.bytes.now) c.in_ok-mac.mac c.in_ok-head.ensures c.in_ok-bits.ensures.read c.in_ok-targets.ensures.read c.in_ok-mac.ensures) in
    as_blob c.args.bytes.now c.in_ok-mac.rest.now _ front (empty (length c.in_ok-mac.rest.now) c.if-not-is_empty.ensures)
