use Rattle.std.proofs.Common.{length}
use Rattle.std.proofs.lemmas.Result.{err_from_is_err_and}
use Rattle.oat_bits.specs.{Packed.packed, Bits.bits_in}
use Rattle.oat_blob.specs.Parts.{AreFewBits, AreBits}
use Rattle.oat_blob.proofs.Counted.{block_stops, count_stops, counted_front, few_bits}
use Rattle.oat_blob.proofs.reader.bits.Goals as goal

pub returns-in_err-count-clause-read : goal.returns-in_err-count-clause-read
returns-in_err-count-clause-read c =
    let p = err_from_is_err_and c.from_residual.result c.from_residual.ensures.1 in
    rw (p.1, p.2) (count_stops packed length AreFewBits AreBits c.args.bytes.now c.in_err-count.field-0.0.left few_bits c.in_err-count.ensures)

pub returns-in_err-bytes-clause-read : goal.returns-in_err-bytes-clause-read
returns-in_err-bytes-clause-read c =
    let p = err_from_is_err_and c.from_residual-in_err-bytes.result c.from_residual-in_err-bytes.ensures.1 in
    rw (p.1, p.2) (block_stops packed length AreFewBits AreBits c.args.bytes.now c.in_ok-count.rest.now c.in_ok-count.count c.in_err-bytes.field-0.0.left few_bits c.in_ok-count.ensures c.in_err-bytes.ensures.read)

pub returns-clause-read : goal.returns-clause-read
returns-clause-read c =
    counted_front packed length AreFewBits AreBits c.args.bytes.now c.in_ok-count.rest.now c.in_ok-bytes.rest.now c.in_ok-count.count (bits_in c.in_ok-count.count c.in_ok-bytes.bytes.now) few_bits c.in_ok-count.ensures c.in_ok-bytes.ensures.read
