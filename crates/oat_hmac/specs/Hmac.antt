-- The code of a text under a key: HMAC (RFC 2104) with SHA-256 (FIPS 180-4), whose blocks have 64
-- bytes.
use Rattle.std.specs.Prelude.{ℕ, ◌-◌, List, ◌++◌, length, map, replicate, bit_xor, nat_lt, if◌then◌else◌}
use Rattle.sha2.specs.Sha256.{sha256}

-- a key longer than a block is hashed first
unfoldable pub short_key : List ℕ → List ℕ
short_key key = if nat_lt 64 (length key) then sha256 key else key

-- the key as one block: zeros fill it
unfoldable pub key_block : List ℕ → List ℕ
key_block key = short_key key ++ replicate (64 - length (short_key key)) 0

-- each byte of a block, exclusive or with the mask
unfoldable pub masked : ℕ → List ℕ → List ℕ
masked mask block = map (λ byte. bit_xor byte mask) block

-- 0x36 is the standard's ipad, and 0x5C its opad
unfoldable pub hmac : List ℕ → List ℕ → List ℕ
hmac key text = sha256 (masked 0x5C (key_block key) ++ sha256 (masked 0x36 (key_block key) ++ text))
