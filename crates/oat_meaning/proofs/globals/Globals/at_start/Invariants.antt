use Rattle.std.proofs.Common.{◌≡◌, ◌<◌, ◌≤◌, ℕ, length, map, take, get_or, vec_len, vec_capacity}
use Rattle.std.specs.List.{sum_by}
use Rattle.oat_check.specs.{GlobalItem, Globals.size_in_cells}
use Rattle.oat_meaning.specs.{declared.globals.Slot.Slot, Globals.IsSlotOf, Globals.slot_words}
use Rattle.oat_meaning.proofs.Slots.{first_words}
use Rattle.oat_meaning.proofs.globals.Globals.at_start.Given as goal

-- the globals so far have their slots
abbrev pub invariant-loop-item : goal.invariant-loop-item
invariant-loop-item l = record {
  count : vec_len l.slots ≡ l.item-index;
  room : length l.items ≤ vec_capacity l.slots;
  cells : l.first_cell ≡ sum_by size_in_cells (take l.item-index l.items);
  each : (g : ℕ) (item : GlobalItem) (slot : Slot) → g < length l.slots.items → IsSlotOf l.items g (get_or l.items g item) (get_or l.slots.items g slot);
  words : slot_words l.slots.items ≡ map first_words (take l.item-index l.items);
  same : l.items ≡ l.program.globals;
}
