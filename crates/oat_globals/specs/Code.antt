-- The code of the lines on global data, and of references to functions, by the homes of the locals. Registers: 9 has a value or a cell's number, 10 a cell's value, 11 an address or a length, 12 an element's number.
use Rattle.std.specs.Prelude.{◌+◌, ℕ, pos, List, [], ◌∷◌, ◌++◌, map}
use Rattle.oat_frames.specs.{SubsReg, AddReg, BCond, Brk, Ldr, Str, global_address, Item, expanded, puts, Frames.Home, Code.home_load, Code.home_store}
use Rattle.oat_asm.specs.declared.item.Item.TheVariants as item
use Rattle.oat_asm.specs.declared.mark.Mark.TheVariants as mark
use Rattle.oat_asm.specs.declared.note.Note.TheVariants as note

-- a number into register 11, and the address of a word of global data
abbrev pub number_code : ℕ → List Item
number_code value = map item.Inst (puts 11 value)

abbrev pub address_code : ℕ → List Item
address_code g = number_code (global_address g)

-- ---- scalars and references

-- X = G, 4 words
abbrev pub load_code : Home → ℕ → List Item
load_code x g = address_code g ++ item.Inst (Ldr 9 11 0) ∷ home_store 9 x ∷ []

-- G = X, 4 words
abbrev pub store_code : ℕ → Home → List Item
store_code g x = address_code g ++ home_load 9 x ∷ item.Inst (Str 9 11 0) ∷ []

-- X = reference of the function with this label, 3 words
abbrev pub ref_code : Home → ℕ → List Item
ref_code x l = item.AddressOf 9 l ∷ home_store 9 x ∷ []

-- ---- elements

-- the test of register 12 against register 11, which traps Index; 3 words
abbrev pub index_test : List Item
index_test = item.Inst (SubsReg 31 12 11) ∷ item.Note note.Check ∷ item.Inst (BCond 3 (pos 2)) ∷ item.Inst (Brk 2) ∷ []

-- The address of the element that local i names, into register 11: of len words from word base on; 9 words.
abbrev pub element_code : (base len : ℕ) (i : Home) → List Item
element_code base len i = home_load 12 i ∷ number_code len ++ index_test ++ address_code base ++ item.Inst (AddReg 11 11 12 3) ∷ []

-- X = A[I], 11 words
abbrev pub loadx_code : (x : Home) (base len : ℕ) (i : Home) → List Item
loadx_code x base len i = element_code base len i ++ item.Inst (Ldr 9 11 0) ∷ home_store 9 x ∷ []

-- A[I] = X, 11 words
abbrev pub storex_code : (base len : ℕ) (i x : Home) → List Item
storex_code base len i x = element_code base len i ++ home_load 9 x ∷ item.Inst (Str 9 11 0) ∷ []

-- ---- critical scalars and arrays: by the groups of uses and defines

-- X = G of a critical scalar, whose cell stands in word g: 6 words
abbrev pub use_code : (x : Home) (g cell : ℕ) → List Item
use_code x g cell = expanded (item.Mark (mark.UseCell cell g)) ++ home_store 10 x ∷ []

-- G = X of a critical scalar, 6 words
abbrev pub define_code : (g cell : ℕ) (x : Home) → List Item
define_code g cell x = home_load 10 x ∷ expanded (item.Mark (mark.DefCell cell g))

-- X = A[I] of a critical array, whose cells begin at `cell` and words at base: 12 words
abbrev pub use_at_code : (x : Home) (base cell len : ℕ) (i : Home) → List Item
use_at_code x base cell len i = home_load 12 i ∷ (expanded (item.Mark (mark.UseAt cell len base)) ++ home_store 10 x ∷ [])

-- A[I] = X of a critical array, 12 words
abbrev pub define_at_code : (base cell len : ℕ) (i x : Home) → List Item
define_at_code base cell len i x = home_load 12 i ∷ home_load 10 x ∷ expanded (item.Mark (mark.DefAt cell len base))
