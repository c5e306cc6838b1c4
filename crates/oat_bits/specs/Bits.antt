-- A list of bits with the room for more, and the bits that packed bytes hold (docs/FORMATS.md).
use Rattle.std.specs.{Prelude.◌≡◌, Prelude.◌≢◌, Prelude.ℕ, Prelude.◌+◌, Prelude.◌-◌, Prelude.◌/◌, Prelude.◌%◌, Prelude.Bool, Prelude.List, Prelude.length, Prelude.map, Prelude.slice_index}
use Rattle.std.specs.{Prelude.◌==◌, Int.bit_at, List.range_with_len}
use Rattle.oat_bits.specs.{Packed.packed, declared.fault.BitsFault.BitsFault, declared.fault.BitsFault.TheVariants.Length, declared.fault.BitsFault.TheVariants.Padding}
use Rattle.oat_bits.specs.{declared.fault.BitsFault.TheVariants.Memory}

-- the bits, and how many more there is room for
pub record BitList : Type 0 where
  pub bits : List Bool
  pub spare : ℕ

-- the bit in a place of packed bytes, the highest of a byte first
abbrev pub bit_in : List ℕ → ℕ → Bool
bit_in bytes place = bit_at (slice_index bytes (place / 8)) (7 - place % 8) == 1

unfoldable pub bits_in : ℕ → List ℕ → List Bool
bits_in count bytes = map (bit_in bytes) (range_with_len 0 count)

-- the bytes are the packed form of so many bits
pub record IsPackedForm (bytes : List ℕ) (count : ℕ) (bits : List Bool) : Type 0 where
  pub counted : length bits ≡ count
  pub form : packed bits ≡ bytes

-- why bytes are refused as the packed form of so many bits; without memory some bits have that form
abbrev pub Refuses : List ℕ → ℕ → BitsFault → Type 0
Refuses bytes count Length = length bytes ≢ (count + 7) / 8
Refuses bytes count Padding = (length bytes ≡ (count + 7) / 8) × ((bits : List Bool) → IsPackedForm bytes count bits → ⊥)
Refuses bytes count Memory = (bits : List Bool) × IsPackedForm bytes count bits
