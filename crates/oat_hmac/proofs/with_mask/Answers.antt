use Rattle.std.proofs.Common.{bit_xor, arith}
use Rattle.oat_hmac.proofs.Blocks.{map_one_more}
use Rattle.oat_hmac.proofs.with_mask.Goals as goal

pub loop-byte-preserved : goal.loop-byte-preserved
loop-byte-preserved c =
    let before = c.loop-byte.invariant in
    rw before (map_one_more (λ byte. bit_xor byte c.args.mask) c.args.block.now c.loop-byte.byte-index (omega arith))
