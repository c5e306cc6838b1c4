-- Items that are laid out stand in the image that has their words, and their words are instructions' (docs/PROMISES.md).
use Rattle.std.specs.Prelude.{◌≡◌, ◌+◌, ◌*◌, ◌≤◌, ℕ, List, ◌++◌, length, Contains}
use Rattle.oat_shape.specs.{Inst, IsInRange, word_of, code_base, Image}
use Rattle.oat_asm.specs.{declared.note.Note.Note, declared.item.Item.Item, Items.words_needed, Items.label_place, Items.address, Items.code_limit, Items.StandsOnce, Items.UsedLabelsStandOnce}
use Rattle.oat_asm.specs.{Items.NoMarkIsLeft, Items.InstructionsAreInRange, Items.BranchesAreInRange, Items.AddressesHaveRegisters, Layout.layout, NoteRows.row_of, Laws.code_of, Standing.IsOver}
use Rattle.oat_asm.specs.{Standing.ItemsStand}
use Rattle.oat_asm.specs.declared.item.Item.TheVariants as item

-- what the assembler asks of the items
pub record CanBeAssembled (items : List Item) : Type 0 where
  pub used : UsedLabelsStandOnce items
  pub unmarked : NoMarkIsLeft items
  pub instructions : InstructionsAreInRange items
  pub branches : BranchesAreInRange items
  pub registers : AddressesHaveRegisters items
  pub few : words_needed items ≤ code_limit

-- each label among the items stands once
abbrev pub LabelsStandOnce : List Item → Type 0
LabelsStandOnce items = (label : ℕ) → Contains items (item.Label label) → StandsOnce items label

-- the address of the item at which a label stands
abbrev pub label_address : List Item → ℕ → ℕ
label_address items label = address code_base (label_place items label)

-- the row of each note is the one over its group
abbrev pub RowsAreOver : Image → List Item → Type 0
RowsAreOver i items =
    (note : Note) (at : ℕ) → Contains (layout items code_base).notes (record { note = note; at = at }) → IsOver i.map.rows (row_of (label_address items) at note)

-- the items of a layout stand in the image that has its words, where each row is the one over its group
abbrev pub LaidItemsStand : Type 0
LaidItemsStand =
    (i : Image) (items : List Item) → CanBeAssembled items → LabelsStandOnce items → i.code ≡ code_of items → RowsAreOver i items
    → ItemsStand i (label_address items) code_base items

-- two lists of items need the words of both
abbrev pub WordsOfTwo : Type 0
WordsOfTwo = (xs ys : List Item) → words_needed (xs ++ ys) ≡ words_needed xs + words_needed ys

-- where two lists of items stand, each stands, the second behind the words of the first
abbrev pub ItemsStandInTwo : Type 0
ItemsStandInTwo =
    (i : Image) (label : ℕ → ℕ) (p : ℕ) (xs ys : List Item) → ItemsStand i label p (xs ++ ys)
    → ItemsStand i label p xs × ItemsStand i label (p + 4 * words_needed xs) ys

-- the word of an instruction
pub record IsEncoded (word : ℕ) : Type 0 where
  pub inst : Inst
  pub range : IsInRange inst
  pub is : word_of inst ≡ word

-- a layout has as many words as its items need, and each is an instruction's
abbrev pub LaidWordsEncode : Type 0
LaidWordsEncode =
    (items : List Item) → CanBeAssembled items → (length (code_of items) ≡ words_needed items) × ((word : ℕ) → Contains (code_of items) word → IsEncoded word)
