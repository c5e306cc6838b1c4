use Rattle.std.proofs.Common.{◌++◌}
use Rattle.oat_hmac.specs.Hmac.{hmac, key_block, masked}
use Rattle.oat_hmac.proofs.Mac.finish.Goals as goal

pub returns : goal.returns
unfolding hmac
returns c = λ key text held.
    let inner = c.finalize-digest.ensures (masked 0x36 (key_block key) ++ text) held.inner in
    let outer = c.update.ensures (masked 0x5C (key_block key)) held.outer in
    c.finalize.ensures _ (rw inner at outer)
