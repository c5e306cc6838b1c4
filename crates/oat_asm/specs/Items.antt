-- Items of code, where they stand, and what has to hold of them before they become words (docs/FORMATS.md).
use Rattle.std.specs.{Prelude.◌≡◌, Prelude.ℕ, Prelude.◌+◌, Prelude.◌*◌, Prelude.◌≤◌, Prelude.◌<◌, Prelude.◌^◌, Prelude.Bool, Prelude.IsTrue, Prelude.false, Prelude.nat_eq, Prelude.List}
use Rattle.std.specs.{Prelude.Contains, Prelude.⊤, List.count_by, List.position_or_len}
use Rattle.oat_shape.specs.{Inst, is_condition, IsInRange}
use Rattle.oat_asm.specs.{declared.branch_form.BranchForm.BranchForm, declared.branch_form.BranchForm.TheVariants.B, declared.branch_form.BranchForm.TheVariants.Bl}
use Rattle.oat_asm.specs.{declared.branch_form.BranchForm.TheVariants.Cond, declared.branch_form.BranchForm.TheVariants.Cbz, declared.branch_form.BranchForm.TheVariants.Cbnz, declared.mark.Mark.Mark}
use Rattle.oat_asm.specs.{declared.item.Item.Item, Giving.words_in, Giving.words_before}
use Rattle.oat_asm.specs.declared.item.Item.TheVariants as item

-- an AddressOf has two words, and labels, marks and notes have none
abbrev pub item_words : Item → ℕ
item_words (item.Inst inst) = 1
item_words (item.BranchTo form label) = 1
item_words (item.AddressOf register label) = 2
item_words _ = 0

-- how many words the items need
abbrev pub words_needed : List Item → ℕ
words_needed items = words_in item_words items

-- the place of item k: how many words stand before it
abbrev pub place : List Item → ℕ → ℕ
place items k = words_before item_words items k

abbrev pub is_label : ℕ → Item → Bool
is_label label (item.Label l) = nat_eq l label
is_label label _ = false

-- the place of the item at which a label stands
abbrev pub label_place : List Item → ℕ → ℕ
label_place items label = place items (position_or_len (is_label label) items)

-- the address of a place: code starts at base, and a word has four bytes
abbrev pub address : ℕ → ℕ → ℕ
address base words = base + 4 * words

-- the most words that code has
abbrev pub code_limit : ℕ
code_limit = 131072

-- ---- what has to hold of the items

abbrev pub StandsOnce : List Item → ℕ → Type 0
StandsOnce items label = count_by (is_label label) items ≡ 1

-- each label that a branch leads to or whose address is taken stands once
pub record UsedLabelsStandOnce (items : List Item) : Type 0 where
  pub branches : (form : BranchForm) (label : ℕ) → Contains items (item.BranchTo form label) → StandsOnce items label
  pub addresses : (register label : ℕ) → Contains items (item.AddressOf register label) → StandsOnce items label

abbrev pub NoMarkIsLeft : List Item → Type 0
NoMarkIsLeft items = (mark : Mark) → Contains items (item.Mark mark) → ⊥

abbrev pub InstructionsAreInRange : List Item → Type 0
InstructionsAreInRange items = (inst : Inst) → Contains items (item.Inst inst) → IsInRange inst

-- a condition is one of the ten, and a register is a number of five bits
abbrev pub IsBranch : BranchForm → Type 0
IsBranch B = ⊤
IsBranch Bl = ⊤
IsBranch (Cond cond) = IsTrue (is_condition cond)
IsBranch (Cbz register) = register < 2 ^ 5
IsBranch (Cbnz register) = register < 2 ^ 5

abbrev pub BranchesAreInRange : List Item → Type 0
BranchesAreInRange items = (form : BranchForm) (label : ℕ) → Contains items (item.BranchTo form label) → IsBranch form

-- an address goes into one of X0 to X30
abbrev pub AddressesHaveRegisters : List Item → Type 0
AddressesHaveRegisters items = (register label : ℕ) → Contains items (item.AddressOf register label) → register ≤ 30
