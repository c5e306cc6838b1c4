-- The words and cells in which the globals of a program are kept.
use Rattle.std.specs.{Prelude.◌≡◌, Prelude.◌<◌, Prelude.◌≤◌, Prelude.ℕ, Prelude.List, Prelude.[], Prelude.length, Prelude.take, Prelude.map, Prelude.get_or, List.sum_by}
use Rattle.oat_check.specs.{Program, GlobalItem, Globals.Values, Globals.first_values, Globals.size_in_cells, Globals.size_in_words}
use Rattle.oat_meaning.specs.declared.globals.Slot.{Slot}

-- the words of each global of a program
pub record Stored : Type 0 where
  pub program : Program
  pub words : List (List ℕ)

abbrev pub slot_words : List Slot → List (List ℕ)
slot_words slots = map (λ slot. slot.words.items) slots

-- what they hold; elements that no global has stay as they were
abbrev pub values_of : Stored → Values
values_of stored = λ g i. get_or (get_or stored.words g []) i (first_values stored.program g i)

-- a slot has a word for each element of its global, and tells its cells
pub record IsSlotOf (items : List GlobalItem) (g : ℕ) (item : GlobalItem) (slot : Slot) : Type 0 where
  pub words : length slot.words.items ≡ size_in_words item
  pub cells : slot.cells ≡ size_in_cells item
  pub first_cell : slot.first_cell ≡ sum_by size_in_cells (take g items)

-- each global has its slot, and all words are few
pub record AreSlotsOf (items : List GlobalItem) (slots : List Slot) : Type 0 where
  pub all : length slots ≡ length items
  pub each : (g : ℕ) (item : GlobalItem) (slot : Slot) → g < length slots → IsSlotOf items g (get_or items g item) (get_or slots g slot)
  pub few : sum_by size_in_words items ≤ 65536
