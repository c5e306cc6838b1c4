-- The key and the text that a Mac has taken while the text comes in by pieces (RFC 2104).
use Rattle.std.specs.Prelude.{ℕ, List, ◌++◌}
use Rattle.sha2.specs.Hashers.{Holds256}
use Rattle.oat_hmac.specs.{declared.Mac.Mac, Hmac.key_block, Hmac.masked}

-- the inner hash has taken the masked key and the text so far, and the outer hash the masked key
pub record HasTaken (mac : Mac) (key text : List ℕ) : Type 0 where
  pub inner : Holds256 mac.inner (masked 0x36 (key_block key) ++ text)
  pub outer : Holds256 mac.outer (masked 0x5C (key_block key))
