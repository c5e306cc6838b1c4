-- What has to be in range, item by item.
use Rattle.std.specs.{Prelude.◌≤◌, Prelude.List, Prelude.⊤, List.AllByRecursion}
use Rattle.oat_shape.specs.{IsInRange}
use Rattle.oat_asm.specs.{declared.item.Item.Item, Items.IsBranch, Items.InstructionsAreInRange, Items.BranchesAreInRange, Items.AddressesHaveRegisters, ExpansionLaws.IsMark}
use Rattle.oat_asm.specs.{ExpansionLaws.MarksAreInRange}
use Rattle.oat_asm.specs.declared.item.Item.TheVariants as item

abbrev pub IsItemInRange : Item → Type 0
IsItemInRange (item.Inst inst) = IsInRange inst
IsItemInRange (item.BranchTo form label) = IsBranch form
IsItemInRange (item.AddressOf register label) = register ≤ 30
IsItemInRange (item.Mark mark) = IsMark mark
IsItemInRange _ = ⊤

abbrev pub AreItemsInRange : List Item → Type 0
AreItemsInRange items = AllByRecursion IsItemInRange items

-- Where each item is in range, all instructions, branches, registers and marks are.
pub record AllAreInRange (items : List Item) : Type 0 where
  pub instructions : InstructionsAreInRange items
  pub branches : BranchesAreInRange items
  pub addresses : AddressesHaveRegisters items
  pub marks : MarksAreInRange items

abbrev pub RangesGoByItem : Type 0
RangesGoByItem = (items : List Item) → AreItemsInRange items → AllAreInRange items
