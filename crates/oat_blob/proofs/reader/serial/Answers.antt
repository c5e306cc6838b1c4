use Rattle.std.proofs.Common.{Bool, subst, sym}
use Rattle.std.proofs.lemmas.Result.{err_from_is_err_and}
use Rattle.oat_blob.specs.{Layout.serial_part, Parts.Breaks, Parts.IsSerial}
use Rattle.oat_blob.proofs.Fixed.{serial_stops}
use Rattle.oat_blob.proofs.reader.serial.Goals as goal

pub returns-in_err-serial : goal.returns-in_err-serial
returns-in_err-serial c =
    let p = err_from_is_err_and c.from_residual.result c.from_residual.ensures.1 in
    let bytes = c.args.bytes.now in
    let left = c.in_err-serial.field-0.0.left in
    rw (p.1, p.2) (subst (λ (numbered : Bool). Breaks serial_part (IsSerial numbered) bytes left) (sym c.if-not-numbered.false) (serial_stops bytes left c.in_err-serial.ensures))
