-- The row of the map that a note stands for, and how many words its group has (docs/FORMATS.md, rows and their groups).
use Rattle.std.specs.Prelude.{◌≡◌, ℕ}
use Rattle.oat_shape.specs.{Row}
use Rattle.oat_asm.specs.{declared.mark.Mark.Mark, declared.note.Note.Note, Items.words_needed, Expansion.note_of, Expansion.group}
use Rattle.oat_shape.specs.row as row
use Rattle.oat_shape.specs.rows as rows
use Rattle.oat_asm.specs.declared.note.Note.TheVariants as note

-- the row at an address, by the address of each label
abbrev pub row_of : (ℕ → ℕ) → ℕ → Note → Row
row_of address_of at (note.Jump to) = row.Jump at (address_of to)
row_of address_of at (note.Branch taken other) = row.Branch at (address_of taken) (address_of other)
row_of address_of at (note.Call to) = row.Call at (address_of to)
row_of address_of at (note.ICall params) = row.ICall at params
row_of address_of at note.Ret = row.Ret at
row_of address_of at (note.Begin op) = row.Begin at op
row_of address_of at (note.End op) = row.End at op
row_of address_of at (note.UseCell cell index) = row.UseCell at cell
row_of address_of at (note.DefCell cell index) = row.DefCell at cell
row_of address_of at (note.UseAt cell len index) = row.UseAt at cell len
row_of address_of at (note.DefAt cell len index) = row.DefAt at cell len
row_of address_of at note.Check = row.Check at

-- the group of a mark has as many words as the map says of its row
abbrev pub GroupsHaveTheWordsOfTheirRows : Type 0
GroupsHaveTheWordsOfTheirRows =
    (mark : Mark) (address_of : ℕ → ℕ) (at : ℕ) → words_needed (group mark) ≡ rows.word_count (row_of address_of at (note_of mark))
