-- The layout of items: the words, labels and notes that they become, each at its address (docs/FORMATS.md; the encodings are those of the Arm A64 manual).
use Rattle.std.specs.Prelude.{ℕ, ◌/◌, ◌%◌, ◌^◌, ℤ, pos, ◌-ℤ◌, List, [], ◌∷◌, map}
use Rattle.oat_shape.specs.{Inst, word_of}
use Rattle.oat_asm.specs.{declared.branch_form.BranchForm.BranchForm, declared.branch_form.BranchForm.TheVariants.B, declared.branch_form.BranchForm.TheVariants.Bl}
use Rattle.oat_asm.specs.{declared.branch_form.BranchForm.TheVariants.Cond, declared.branch_form.BranchForm.TheVariants.Cbz, declared.branch_form.BranchForm.TheVariants.Cbnz, declared.item.Item.Item}
use Rattle.oat_asm.specs.{declared.assembled.LabelAt.LabelAt, declared.assembled.NoteAt.NoteAt, declared.assembled.Assembled.Assembled, Giving.gives_from, Items.item_words, Items.label_place}
use Rattle.oat_asm.specs.{Items.address}
use Rattle.oat_a64.specs.declared.inst.Inst.TheVariants as inst
use Rattle.oat_asm.specs.declared.item.Item.TheVariants as item

-- the branch of a form over so many words
abbrev pub branch : BranchForm → ℤ → Inst
branch B offset = inst.B offset
branch Bl offset = inst.Bl offset
branch (Cond cond) offset = inst.BCond cond offset
branch (Cbz register) offset = inst.Cbz register offset
branch (Cbnz register) offset = inst.Cbnz register offset

-- the distance in words from one place to another
abbrev pub distance : ℕ → ℕ → ℤ
distance from to = pos to -ℤ pos from

-- a number of 32 bits into a register: MOVZ X,#low; MOVK X,#high,LSL 16
abbrev pub puts : ℕ → ℕ → List Inst
puts register number = inst.Movz register 0 (number % 2 ^ 16) ∷ inst.Movk register 1 (number / 2 ^ 16) ∷ []

-- the instructions of an item at a place, by the place of each label
abbrev pub instructions : (ℕ → ℕ) → ℕ → ℕ → Item → List Inst
instructions label_place base here (item.Inst i) = i ∷ []
instructions label_place base here (item.BranchTo form label) = branch form (distance here (label_place label)) ∷ []
instructions label_place base here (item.AddressOf register label) = puts register (address base (label_place label))
instructions label_place base here _ = []

abbrev pub words_of_item : (ℕ → ℕ) → ℕ → ℕ → Item → List ℕ
words_of_item label_place base here i = map word_of (instructions label_place base here i)

abbrev pub labels_of_item : ℕ → ℕ → Item → List LabelAt
labels_of_item base here (item.Label label) = record { label = label; at = address base here } ∷ []
labels_of_item base here _ = []

abbrev pub notes_of_item : ℕ → ℕ → Item → List NoteAt
notes_of_item base here (item.Note note) = record { note = note; at = address base here } ∷ []
notes_of_item base here _ = []

-- what items give, each at its place, the first of them at the place here
abbrev pub items_give : {A : Type 0} → (ℕ → Item → List A) → ℕ → List Item → List A
items_give gives here items = gives_from item_words gives here items

abbrev pub layout : List Item → ℕ → Assembled
layout items base =
    record {
      code = items_give (words_of_item (label_place items) base) 0 items;
      labels = items_give (labels_of_item base) 0 items;
      notes = items_give (notes_of_item base) 0 items;
    }
