-- The device's data memory: bytes by address in two regions, and the little-endian words of 8 bytes in them, as the Arm A64 manual's memory accesses read and write them.
use Rattle.std.specs.{Prelude.◌≡◌, Prelude.ℕ, Prelude.◌+◌, Prelude.◌-◌, Prelude.◌*◌, Prelude.◌%◌, Prelude.◌^◌, Prelude.◌<◌, Prelude.◌≤◌, Prelude.◌⊎◌, Prelude.Bool, Prelude.◌&&◌, Prelude.◌||◌}
use Rattle.std.specs.{Prelude.◌==◌, Prelude.nat_le, Prelude.nat_lt, Prelude.if◌then◌else◌, Prelude.List, Prelude.[], Prelude.◌∷◌, Prelude.length, Prelude.slice_index, Int.w64, Int.to_le_bytes}
use Rattle.std.specs.{Int.from_le_bytes}

-- the global data
abbrev pub global_base : ℕ
global_base = 0x4000_0000

abbrev pub global_size : ℕ
global_size = 524288

-- the address of a word of global data
abbrev pub global_address : ℕ → ℕ
global_address index = global_base + 8 * index

-- the stack, which ends just below 0x8000_0000
abbrev pub stack_base : ℕ
stack_base = 0x7FF0_0000

abbrev pub stack_size : ℕ
stack_size = 1048576

-- so many bytes from an address lie wholly in a region
abbrev pub lies_in : ℕ → ℕ → ℕ → ℕ → Bool
lies_in base size address count = nat_le base address && nat_le (address + count) (base + size)

-- so many bytes from an address lie wholly in one of the two regions
unfoldable pub fits : ℕ → ℕ → Bool
fits address count =
    lies_in global_base global_size address count || lies_in stack_base stack_size address count

-- a word can be read and written here: the address is a multiple of 8, and the 8 bytes lie in one region
unfoldable pub can_access : ℕ → Bool
can_access address = address % 8 == 0 && fits address 8

-- the bytes of the two regions, in the order of their addresses
pub record Regions : Type 0 where
  pub globals : List ℕ
  pub stack : List ℕ

-- the byte at an address, and 0 outside the regions
unfoldable pub byte_at : Regions → ℕ → ℕ
byte_at m address =
    if lies_in global_base global_size address 1 then slice_index m.globals (address - global_base)
    else (if lies_in stack_base stack_size address 1 then slice_index m.stack (address - stack_base) else 0)

-- memory in which these bytes stand from an address on, and else the old ones
unfoldable pub with_bytes : (ℕ → ℕ) → ℕ → List ℕ → (ℕ → ℕ)
with_bytes memory address bytes place =
    if nat_le address place && nat_lt place (address + length bytes) then slice_index bytes (place - address)
    else memory place

-- the word whose least significant byte stands at an address
unfoldable pub word_in : (ℕ → ℕ) → ℕ → ℕ
word_in memory a =
    from_le_bytes w64 (memory a ∷ memory (a + 1) ∷ memory (a + 2) ∷ memory (a + 3) ∷ memory (a + 4) ∷ memory (a + 5) ∷ memory (a + 6) ∷ memory (a + 7) ∷ [])

-- memory in which a word stands at an address, and else the old bytes
unfoldable pub with_word : (ℕ → ℕ) → ℕ → ℕ → (ℕ → ℕ)
with_word memory address value = with_bytes memory address (to_le_bytes w64 value)

-- each byte is one
abbrev pub IsBytes : (ℕ → ℕ) → Type 0
IsBytes memory = (address : ℕ) → memory address < 256

-- ---- the laws of words

-- a word that was written is read back
abbrev pub WordsReadBack : Type 0
WordsReadBack =
    (memory : ℕ → ℕ) (a value : ℕ) → value < 2 ^ 64 → word_in (with_word memory a value) a ≡ value

-- a word elsewhere stays as it was
abbrev pub OtherWordsStay : Type 0
OtherWordsStay =
    (memory : ℕ → ℕ) (a value b : ℕ) → (a + 8 ≤ b) ⊎ (b + 8 ≤ a) → word_in (with_word memory a value) b ≡ word_in memory b

-- a word of bytes is below 2 ^ 64
abbrev pub WordsAreBounded : Type 0
WordsAreBounded = (memory : ℕ → ℕ) (a : ℕ) → IsBytes memory → word_in memory a < 2 ^ 64

-- memory stays bytes where bytes, or a word, are written
abbrev pub MemoryStaysBytes : Type 0
MemoryStaysBytes =
    (memory : ℕ → ℕ) (a : ℕ) → IsBytes memory → ((bytes : List ℕ) → IsBytes (slice_index bytes) → IsBytes (with_bytes memory a bytes)) × ((value : ℕ) → IsBytes (with_word memory a value))
