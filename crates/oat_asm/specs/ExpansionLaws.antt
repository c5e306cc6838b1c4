-- What holds of each expansion (docs/PROMISES.md): what the assembler asks of the items holds of the expanded ones.
use Rattle.std.specs.{Prelude.◌≡◌, Prelude.ℕ, Prelude.◌^◌, Prelude.◌<◌, Prelude.List, Prelude.Contains, Prelude.⊤, Prelude.◌⊎◌, List.count_by}
use Rattle.oat_asm.specs.{declared.mark.Mark.Mark, declared.mark.Mark.TheVariants.Jump, declared.mark.Mark.TheVariants.Branch, declared.mark.Mark.TheVariants.Call}
use Rattle.oat_asm.specs.{declared.mark.Mark.TheVariants.Begin, declared.mark.Mark.TheVariants.End, declared.mark.Mark.TheVariants.UseCell, declared.mark.Mark.TheVariants.DefCell}
use Rattle.oat_asm.specs.{declared.mark.Mark.TheVariants.UseAt, declared.mark.Mark.TheVariants.DefAt, declared.item.Item.Item, Items.is_label, Items.StandsOnce, Items.UsedLabelsStandOnce}
use Rattle.oat_asm.specs.{Items.NoMarkIsLeft, Items.InstructionsAreInRange, Items.BranchesAreInRange, Items.AddressesHaveRegisters, Expansion.expansion}
use Rattle.oat_asm.specs.declared.item.Item.TheVariants as item

-- ids, cells and lengths have 16 bits, and a cell's word is one of the first 65,536
abbrev pub IsMark : Mark → Type 0
IsMark (Begin op) = op < 2 ^ 16
IsMark (End op) = op < 2 ^ 16
IsMark (UseCell cell index) = (cell < 2 ^ 16) × (index < 65536)
IsMark (DefCell cell index) = (cell < 2 ^ 16) × (index < 65536)
IsMark (UseAt cell len index) = (cell < 2 ^ 16) × (len < 2 ^ 16) × (index < 65536)
IsMark (DefAt cell len index) = (cell < 2 ^ 16) × (len < 2 ^ 16) × (index < 65536)
IsMark _ = ⊤

abbrev pub MarksAreInRange : List Item → Type 0
MarksAreInRange items = (mark : Mark) → Contains items (item.Mark mark) → IsMark mark

-- the row of a mark leads to a label
abbrev pub LeadsTo : Mark → ℕ → Type 0
LeadsTo (Jump to) label = to ≡ label
LeadsTo (Branch taken other) label = (taken ≡ label) ⊎ (other ≡ label)
LeadsTo (Call to) label = to ≡ label
LeadsTo _ label = ⊥

abbrev pub MarkedLabelsStandOnce : List Item → Type 0
MarkedLabelsStandOnce items =
    (mark : Mark) (label : ℕ) → Contains items (item.Mark mark) → LeadsTo mark label → StandsOnce items label

-- no mark is left
abbrev pub ExpansionLeavesNoMark : Type 0
ExpansionLeavesNoMark = (items : List Item) → NoMarkIsLeft (expansion items)

-- each label stands as often as before
abbrev pub ExpansionKeepsLabels : Type 0
ExpansionKeepsLabels =
    (items : List Item) (label : ℕ) → count_by (is_label label) (expansion items) ≡ count_by (is_label label) items

-- if each label to which an item or mark leads stands once, then each label that is used does
abbrev pub ExpansionUsesLabelsThatStandOnce : Type 0
ExpansionUsesLabelsThatStandOnce =
    (items : List Item) → UsedLabelsStandOnce items → MarkedLabelsStandOnce items → UsedLabelsStandOnce (expansion items)

-- instructions, branches and registers stay in range
abbrev pub ExpansionStaysInRange : Type 0
ExpansionStaysInRange =
    (items : List Item) → InstructionsAreInRange items → BranchesAreInRange items → AddressesHaveRegisters items → MarksAreInRange items
    → InstructionsAreInRange (expansion items) × BranchesAreInRange (expansion items) × AddressesHaveRegisters (expansion items)
