-- What a blob that was read shows, and where in its bytes it stands (docs/FORMATS.md).
use Rattle.std.specs.{Prelude.◌≡◌, Prelude.ℕ, Prelude.◌+◌, Prelude.◌*◌, Prelude.◌/◌, Prelude.List, Prelude.◌++◌, Prelude.length, Prelude.take, Prelude.drop, Prelude.map, Int.w64, Int.from_be_bytes}
use Rattle.std.specs.{List.range_with_len}
use Rattle.oat_bits.specs.{Bits.bits_in, Packed.packed}
use Rattle.oat_blob.specs.{Body.AreBytes, Body.Body, Body.IsBody, Layout.covered_of, Layout.bits_part, Layout.targets_part, Parts.IsFront, Parts.AreBits, Parts.AreFewBits, Parts.AreTargets}
use Rattle.oat_blob.specs.{Parts.AreFewTargets, Parts.addresses_part}

-- the body, and the MAC that the bytes carry
pub record Shown : Type 0 where
  pub body : Body
  pub mac : List ℕ

-- the number in a place of bytes that hold eight for each
abbrev pub target_in : List ℕ → ℕ → ℕ
target_in bytes place = from_be_bytes w64 (take 8 (drop (place * 8) bytes))

unfoldable pub targets_in : ℕ → List ℕ → List ℕ
targets_in count bytes = map (target_in bytes) (range_with_len 0 count)

-- the bytes before the MAC are those of the body, and there are bytes for each record
pub record IsShown (body : Body) (covered : List ℕ) (bit_count : ℕ) (bits : List ℕ) (target_count : ℕ) (targets : List ℕ) : Type 0 where
  pub whole : covered ≡ covered_of body
  pub bits_held : length bits ≡ (bit_count + 7) / 8
  pub targets_held : length targets ≡ target_count * 8

-- a blob as its layout has it, with any 32 bytes in place of the MAC
abbrev pub blob_part : Shown → List ℕ
blob_part shown = covered_of shown.body ++ shown.mac

pub record IsWhole (shown : Shown) : Type 0 where
  pub body : IsBody shown.body
  pub mac : AreBytes 32 shown.mac

-- in front of the bytes stand so many bits as these bytes hold, and with their count; then the rest
abbrev pub HasPackedBits : List ℕ → ℕ → List ℕ → List ℕ → Type 0
HasPackedBits bytes count held rest = IsFront packed (AreBits count) bytes (bits_in count held) rest

abbrev pub HasBits : List ℕ → ℕ → List ℕ → List ℕ → Type 0
HasBits bytes count held rest = IsFront bits_part AreFewBits bytes (bits_in count held) rest

-- the same of targets
abbrev pub HasAddresses : List ℕ → ℕ → List ℕ → List ℕ → Type 0
HasAddresses bytes count held rest = IsFront addresses_part (AreTargets count) bytes (targets_in count held) rest

abbrev pub HasTargets : List ℕ → ℕ → List ℕ → List ℕ → Type 0
HasTargets bytes count held rest = IsFront targets_part AreFewTargets bytes (targets_in count held) rest
