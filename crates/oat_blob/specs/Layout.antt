-- The layout of a blob, without and with a serial number: docs/FORMATS.md. Numbers stand with the
-- high byte first.
use Rattle.std.specs.{Prelude.◌≡◌, Prelude.ℕ, Prelude.Bool, Prelude.true, Prelude.false, Prelude.List, Prelude.[], Prelude.◌∷◌, Prelude.◌++◌, Prelude.length, Prelude.Option, Prelude.Some}
use Rattle.std.specs.{Prelude.None, Prelude.is_some, Int.w16, Int.w32, Int.w64, Int.to_be_bytes, List.flat_map}
use Rattle.oat_bits.specs.Packed.{packed}
use Rattle.oat_hmac.specs.Hmac.{hmac}
use Rattle.oat_blob.specs.{declared.body.Violation.Violation, Body.AreBytes, Body.Body, Body.IsBody}

-- 'OATB'
abbrev pub magic : List ℕ
magic = 0x4F ∷ 0x41 ∷ 0x54 ∷ 0x42 ∷ []

-- the version: 2 where the window has a serial number, else 1
abbrev pub version_part : Bool → List ℕ
version_part false = 1 ∷ []
version_part true = 2 ∷ []

abbrev pub serial_part : Option ℕ → List ℕ
serial_part None = []
serial_part (Some serial) = to_be_bytes w32 serial

-- a flag, and behind the flag 1 the first unsound use
abbrev pub violation_part : Option Violation → List ℕ
violation_part None = 0 ∷ []
violation_part (Some violation) =
    1 ∷ (to_be_bytes w32 violation.cell ++ (to_be_bytes w64 violation.expected ++ to_be_bytes w64 violation.found))

abbrev pub bits_part : List Bool → List ℕ
bits_part bits = to_be_bytes w32 (length bits) ++ packed bits

abbrev pub targets_part : List ℕ → List ℕ
targets_part targets = to_be_bytes w32 (length targets) ++ flat_map (to_be_bytes w64) targets

-- all before the MAC
unfoldable pub covered_of : Body → List ℕ
covered_of body =
    magic
    ++ (version_part (is_some body.head.serial)
    ++ (to_be_bytes w16 body.head.op
    ++ (serial_part body.head.serial
    ++ (body.head.nonce
    ++ (body.head.digest
    ++ (body.head.hash
    ++ (violation_part body.head.violation
    ++ (bits_part body.bits
    ++ targets_part body.targets))))))))

-- the bytes are laid out as a blob of the body, with any 32 bytes in place of the MAC
pub record IsBlob (bytes : List ℕ) (body : Body) (mac : List ℕ) : Type 0 where
  pub body_fits : IsBody body
  pub mac_fits : AreBytes 32 mac
  pub layout : bytes ≡ covered_of body ++ mac

-- the blob of the body, sealed under the key
abbrev pub IsBlobOf : Body → List ℕ → List ℕ → Type 0
IsBlobOf body key bytes = IsBlob bytes body (hmac key (covered_of body))
