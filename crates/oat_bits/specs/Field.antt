-- A bit field of a word, by the place of its lowest bit and its width, and the word with that field replaced, as the Arm A64 manual writes <high:low>.
use Rattle.std.specs.{Prelude.◌≡◌, Prelude.ℕ, Prelude.◌+◌, Prelude.◌*◌, Prelude.◌/◌, Prelude.◌%◌, Prelude.◌^◌, Prelude.◌<◌, Prelude.◌≤◌, Prelude.◌⊎◌, Int.bit_at}

-- the number that the bits of a field make
abbrev pub field : ℕ → ℕ → ℕ → ℕ
field low width word = word / 2 ^ low % 2 ^ width

-- what stands above the field, then the value, then what stands below the field
abbrev pub with_field : ℕ → ℕ → ℕ → ℕ → ℕ
with_field low width word value = word / 2 ^ (low + width) * 2 ^ (low + width) + value * 2 ^ low + word % 2 ^ low

-- a field that was written reads as what was written
abbrev pub ReadsBack : Type 0
ReadsBack = (low width word value : ℕ) → value < 2 ^ width → field low width (with_field low width word value) ≡ value

-- each bit outside the field stays
abbrev pub KeepsOthers : Type 0
KeepsOthers = (low width word value k : ℕ) → value < 2 ^ width → (k < low) ⊎ (low + width ≤ k) → bit_at (with_field low width word value) k ≡ bit_at word k
