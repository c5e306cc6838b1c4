-- What holds of each layout (docs/PROMISES.md), of which the compiler's proofs make use.
use Rattle.std.specs.{Prelude.◌≡◌, Prelude.ℕ, Prelude.◌+◌, Prelude.◌/◌, Prelude.◌%◌, Prelude.◌^◌, Prelude.◌≤◌, Prelude.◌↔◌, Prelude.ℤ, Prelude.List, Prelude.◌++◌, Prelude.Some, Prelude.slice_get}
use Rattle.std.specs.{Prelude.Contains, List.count_by}
use Rattle.oat_shape.specs.{Inst, Movz, Movk, IsInRange, code_base, word_at, instruction_at, branch_target}
use Rattle.oat_asm.specs.{declared.branch_form.BranchForm.BranchForm, declared.note.Note.Note, declared.item.Item.Item, declared.assembled.NoteAt.NoteAt, Items.item_words, Items.words_needed}
use Rattle.oat_asm.specs.{Items.place, Items.is_label, Items.label_place, Items.address, Items.code_limit, Items.StandsOnce, Items.IsBranch, Layout.branch, Layout.distance, Layout.words_of_item}
use Rattle.oat_asm.specs.{Layout.labels_of_item, Layout.notes_of_item, Layout.items_give, Layout.layout}
use Rattle.oat_asm.specs.declared.item.Item.TheVariants as item

abbrev pub code_of : List Item → List ℕ
code_of items = (layout items code_base).code

-- the address of item k
abbrev pub item_address : List Item → ℕ → ℕ
item_address items k = address code_base (place items k)

-- ---- places

-- the next item stands behind the words of this one
abbrev pub ItemsFollowOneAnother : Type 0
ItemsFollowOneAnother =
    (items : List Item) (k : ℕ) (i : Item) → slice_get items k ≡ Some i → place items (k + 1) ≡ place items k + item_words i

-- a later item has no lower place, and none lies behind all words
abbrev pub PlacesRise : Type 0
PlacesRise = (items : List Item) (j k : ℕ) → j ≤ k → (place items j ≤ place items k) × (place items k ≤ words_needed items)

-- of two lists of items, those of the second give what they give behind the words of the first
abbrev pub GiveInTwo : {A : Type 0} → (ℕ → Item → List A) → Type 0
GiveInTwo gives =
    (here : ℕ) (xs ys : List Item) → items_give gives here (xs ++ ys) ≡ items_give gives here xs ++ items_give gives (here + words_needed xs) ys

abbrev pub LayoutsAreOfTwo : Type 0
LayoutsAreOfTwo =
    (label_place : ℕ → ℕ) (base : ℕ) → GiveInTwo (words_of_item label_place base) × GiveInTwo (labels_of_item base) × GiveInTwo (notes_of_item base)

-- ---- labels

-- the place of a label is that of the item at which it stands
abbrev pub LabelsHaveThePlacesOfTheirItems : Type 0
LabelsHaveThePlacesOfTheirItems =
    (items : List Item) (k label : ℕ) → StandsOnce items label → slice_get items k ≡ Some (item.Label label) → label_place items label ≡ place items k

-- behind items among which a label isn't, it stands where it stands in the rest
abbrev pub LabelsStandBehindOthers : Type 0
LabelsStandBehindOthers =
    (xs ys : List Item) (label : ℕ) → count_by (is_label label) xs ≡ 0 → label_place (xs ++ ys) label ≡ words_needed xs + label_place ys label

-- ---- words

-- at the address of a place stands the word of that number
abbrev pub WordsStandAtTheirPlaces : Type 0
WordsStandAtTheirPlaces = (code : List ℕ) (p : ℕ) → word_at code (address code_base p) ≡ slice_get code p

-- a branch from one place of code to another has its field's width, and leads there
abbrev pub BranchesReachPlaces : Type 0
BranchesReachPlaces =
    (form : BranchForm) (from to : ℕ) → IsBranch form → from ≤ code_limit → to ≤ code_limit
    → IsInRange (branch form (distance from to)) × (branch_target (address code_base from) (distance from to) ≡ address code_base to)

-- at the address of an instruction among the items stands that instruction
abbrev pub InstructionsStandAtTheirAddresses : Type 0
InstructionsStandAtTheirAddresses =
    (items : List Item) (k : ℕ) (inst : Inst) → IsInRange inst → slice_get items k ≡ Some (item.Inst inst)
    → instruction_at (code_of items) (item_address items k) ≡ Some inst

-- at the address of a branch to a label stands a branch of its form that leads to the label's address
abbrev pub BranchesLeadToTheirLabels : Type 0
BranchesLeadToTheirLabels =
    (items : List Item) (k j : ℕ) (form : BranchForm) (label : ℕ) → IsBranch form → StandsOnce items label → words_needed items ≤ code_limit
    → slice_get items k ≡ Some (item.BranchTo form label) → slice_get items j ≡ Some (item.Label label)
    → (offset : ℤ) × (instruction_at (code_of items) (item_address items k) ≡ Some (branch form offset))
    × (branch_target (item_address items k) offset ≡ item_address items j)

-- at the address of an item that takes a label's address stand the two moves that put it into the register
abbrev pub AddressesArePut : Type 0
AddressesArePut =
    (items : List Item) (k j register label : ℕ) → register ≤ 30 → StandsOnce items label → words_needed items ≤ code_limit
    → slice_get items k ≡ Some (item.AddressOf register label) → slice_get items j ≡ Some (item.Label label)
    → (instruction_at (code_of items) (item_address items k) ≡ Some (Movz register 0 (item_address items j % 2 ^ 16)))
    × (instruction_at (code_of items) (item_address items k + 4) ≡ Some (Movk register 1 (item_address items j / 2 ^ 16)))

-- ---- what is listed

-- a label is listed with the addresses of its items, and with no others; so is a note
abbrev pub LabelsAreListed : Type 0
LabelsAreListed =
    (items : List Item) (base label at : ℕ)
    → Contains (layout items base).labels (record { label = label; at = at })
    ↔ ((k : ℕ) × (slice_get items k ≡ Some (item.Label label)) × (at ≡ address base (place items k)))

abbrev pub NotesAreListed : Type 0
NotesAreListed =
    (items : List Item) (base at : ℕ) (note : Note)
    → Contains (layout items base).notes (record { note = note; at = at })
    ↔ ((k : ℕ) × (slice_get items k ≡ Some (item.Note note)) × (at ≡ address base (place items k)))

-- notes are listed in the order of their addresses
abbrev pub NotesAreInOrder : Type 0
NotesAreInOrder =
    (items : List Item) (base j k : ℕ) (one other : NoteAt) → j ≤ k
    → slice_get (layout items base).notes j ≡ Some one → slice_get (layout items base).notes k ≡ Some other → one.at ≤ other.at
