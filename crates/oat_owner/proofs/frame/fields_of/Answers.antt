use Rattle.std.proofs.Common.{◌≡◌, ◌+◌, length, arith}
use Rattle.oat_owner.proofs.Answering.{bytes_fit, fields_read}
use Rattle.oat_owner.proofs.frame.fields_of.Goals as goal

pub returns : goal.returns
returns c =
    let one = c.in_ok-device.ensures.cases in
    let two = c.in_ok-nonce.ensures.cases in
    let three = c.in_ok-stated.ensures.cases in
    let four : length c.in_ok-device.rest.now + 4 ≡ length c.args.bytes.now = one.2 in
    let sixteen : length c.in_ok-nonce.rest.now + 16 ≡ length c.in_ok-device.rest.now = two.2 in
    let last : length c.in_ok-stated.rest.now + 4 ≡ length c.in_ok-nonce.rest.now = three.2 in
    fields_read c.args.bytes.now c.in_ok-device.device.now c.in_ok-device.rest.now c.in_ok-nonce.nonce.now c.in_ok-nonce.rest.now c.in_ok-stated.stated.now c.in_ok-stated.rest.now
    c.from_be_bytes.result c.from_be_bytes-2.result (omega (arith, four)) (omega (arith, sixteen)) (omega (arith, last))
    (bytes_fit c.args.bytes.now c.type_inv.bytes) one.0 one.1 two.0 two.1 three.0 three.1 c.from_be_bytes.ensures c.from_be_bytes-2.ensures
