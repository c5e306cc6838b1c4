-- The shape of an image: eight rules, tested in their order (docs/FORMATS.md, "Shape"). Each says what has to hold at one address; the lowest address where one fails is the one that a refusal names.
use Rattle.std.specs.Prelude.{◌≡◌, ◌+◌, ◌*◌, ◌<◌, ◌≤◌, ◌⊎◌, ℕ, ◌||◌, IsTrue, List, Some, IsSome, slice_get, Contains}
use Rattle.oat_first.specs.First.{Tests}
use Rattle.oat_a64.specs.{declared.inst.Inst.Inst, Fetch.inst_of, Kinds.is_measured, Kinds.is_transfer, Step.code_base, Step.word_at, Step.instruction_at}
use Rattle.oat_image.specs.{Map, Row, address_of, word_count, after, entries_of, is_call, starts_of, declared.image.Image.Image}
use Rattle.oat_shape.specs.{declared.fault.Broken.Broken, Groups.IsGroup, MapRules.S2, MapRules.S4, MapRules.S7, MapRules.S8}

-- the address behind the words of a row's group
abbrev pub group_end : Row → ℕ
group_end row = address_of row + 4 * word_count row

-- an address lies in a row's group
abbrev pub Covers : Row → ℕ → Type 0
Covers row address = (address_of row ≤ address) × (address < group_end row)

-- no group begins below an address and ends above it
abbrev pub CutsNoGroup : List Row → ℕ → Type 0
CutsNoGroup rows address = (row : Row) → Contains rows row → address_of row < address → group_end row ≤ address

-- the address behind the group of a call
abbrev pub IsReturnSite : List Row → ℕ → Type 0
IsReturnSite rows address = (row : Row) × Contains rows row × IsTrue (is_call row) × (after row ≡ address)

-- where functions are entered, blocks start and calls are returned to
abbrev pub IsPlaceOrSite : Map → ℕ → Type 0
IsPlaceOrSite m address = Contains (entries_of m.functions) address ⊎ Contains (starts_of m.blocks) address ⊎ IsReturnSite m.rows address

-- S1: the word there decodes.
abbrev pub S1 : Image → ℕ → Type 0
S1 i a = (k word : ℕ) → slice_get i.code k ≡ Some word → code_base + 4 * k ≡ a → IsSome (inst_of word)

-- S3: an instruction there that transfers control or is measured stands in a row's group, and a row there has its group.
pub record S3 (i : Image) (a : ℕ) : Type 0 where
  pub transfers : (inst : Inst) → instruction_at i.code a ≡ Some inst → IsTrue (is_transfer inst || is_measured inst)
      → (row : Row) × Contains i.map.rows row × Covers row a
  pub groups : (row : Row) → Contains i.map.rows row → address_of row ≡ a → IsGroup i.code i.cells row

-- S5: a place or return site there lies inside no group.
abbrev pub S5 : Image → ℕ → Type 0
S5 i a = IsPlaceOrSite i.map a → CutsNoGroup i.map.rows a

-- S6: a place or return site there is the address of a word of code.
abbrev pub S6 : Image → ℕ → Type 0
S6 i a = IsPlaceOrSite i.map a → IsSome (word_at i.code a)

-- a rule holds at every address
abbrev pub Everywhere : (ℕ → Type 0) → Type 0
Everywhere rule = (a : ℕ) → rule a

-- All eight rules hold.
pub record IsShaped (i : Image) : Type 0 where
  pub decodes : Everywhere (S1 i)
  pub rises : Everywhere (S2 i.map)
  pub grouped : Everywhere (S3 i)
  pub leads : Everywhere (S4 i.map)
  pub apart : Everywhere (S5 i)
  pub coded : Everywhere (S6 i)
  pub paired : Everywhere (S7 i.map)
  pub named : Everywhere (S8 i.map)

-- the lowest address at which a rule fails
pub record FailsLowest (rule : ℕ → Type 0) (at : ℕ) : Type 0 where
  pub fails : ¬ rule at
  pub lowest : (a : ℕ) → a < at → rule a

-- the broken rule is the one of this number, at the lowest address at which it fails
pub record IsBrokenRule (rule : ℕ → Type 0) (number : ℕ) (broken : Broken) : Type 0 where
  pub lowest : FailsLowest rule broken.at
  pub numbered : broken.number ≡ number

-- a rule is tested: it is the broken one, or it holds and the next rules are tested
abbrev pub TestsRule : (ℕ → Type 0) → ℕ → (Broken → Type 0) → Broken → Type 0
TestsRule rule number Rest = Tests Broken (Everywhere rule) (IsBrokenRule rule number) Rest

-- the first of the rules from S5 on that fails
abbrev pub BreaksLaterRule : Image → Broken → Type 0
BreaksLaterRule i =
    TestsRule (S5 i) 5 (TestsRule (S6 i) 6 (TestsRule (S7 i.map) 7 (TestsRule (S8 i.map) 8 (λ none. ⊥))))

-- the first rule that fails
abbrev pub BreaksRule : Image → Broken → Type 0
BreaksRule i =
    TestsRule (S1 i) 1 (TestsRule (S2 i.map) 2 (TestsRule (S3 i) 3 (TestsRule (S4 i.map) 4 (BreaksLaterRule i))))

-- The first rule that fails, by its number, and the lowest address at which it does.
abbrev pub IsBroken : Image → ℕ → ℕ → Type 0
IsBroken i number at = BreaksRule i (record { number = number; at = at })
