-- The fields of an answer frame between its front and its blob.
use Rattle.std.specs.{Prelude.◌≡◌, Prelude.◌<◌, Prelude.◌^◌, Prelude.ℕ, Prelude.List, Prelude.◌++◌, Int.w32, Int.to_be_bytes}
use Rattle.oat_verify.specs.{AreBytes}

-- the fields of a frame that states so many bytes for its blob
abbrev pub fields_part : (device : ℕ) → (nonce : List ℕ) → (stated : ℕ) → List ℕ
fields_part device nonce stated = to_be_bytes w32 device ++ (nonce ++ to_be_bytes w32 stated)

-- the bytes are these fields, and the rest
pub record AreFields (bytes : List ℕ) (device : ℕ) (nonce : List ℕ) (stated : ℕ) (rest : List ℕ) : Type 0 where
  pub device_fits : device < 2 ^ 32
  pub nonce_fits : AreBytes 16 nonce
  pub stated_fits : stated < 2 ^ 32
  pub spelled : bytes ≡ fields_part device nonce stated ++ rest
