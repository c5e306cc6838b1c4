-- What the packed form of bits is good for (docs/FORMATS.md).
use Rattle.std.specs.{Prelude.◌≡◌, Prelude.ℕ, Prelude.◌+◌, Prelude.◌/◌, Prelude.◌<◌, Prelude.Bool, Prelude.List, Prelude.length, List.All}
use Rattle.oat_bits.specs.{Packed.packed, Bits.IsPackedForm, Bits.bits_in}

-- bytes are the packed form of at most one list of a given length
abbrev pub OnePackedForm : Type 0
OnePackedForm = (bytes : List ℕ) (count : ℕ) (bits other : List Bool) → IsPackedForm bytes count bits → IsPackedForm bytes count other → bits ≡ other

-- so many bytes as hold the bits
abbrev pub PackedLength : Type 0
PackedLength = (bits : List Bool) → (length (packed bits) ≡ (length bits + 7) / 8) × All (λ byte. byte < 256) (packed bits)

-- the bits that a packed form holds are those that it is of
abbrev pub PackedHolds : Type 0
PackedHolds = (bits : List Bool) → bits_in (length bits) (packed bits) ≡ bits
