-- Items in an image: where they stand, and that the group of a mark is the group of its row. So the expansion and the shape rules have one table of groups.
use Rattle.std.specs.Prelude.{◌≡◌, ◌+◌, ◌/◌, ◌%◌, ◌^◌, ◌≤◌, ◌<◌, ◌↔◌, ℕ, List, [], ◌∷◌, Some, slice_get, ⊤}
use Rattle.oat_shape.specs.{Movz, Movk, Row, address_of, row_over, Image, Groups.Stands, Groups.Branches, Groups.AreElements, Groups.IsGroup, Shape.group_end}
use Rattle.oat_asm.specs.{declared.mark.Mark.Mark, declared.mark.Mark.TheVariants.UseCell, declared.mark.Mark.TheVariants.DefCell, declared.mark.Mark.TheVariants.UseAt}
use Rattle.oat_asm.specs.{declared.mark.Mark.TheVariants.DefAt, declared.item.Item.Item, Layout.branch, Expansion.note_of, Expansion.group, NoteRows.row_of}
use Rattle.oat_asm.specs.declared.item.Item.TheVariants as item

-- a row is the one over each address of its group
abbrev pub IsOver : List Row → Row → Type 0
IsOver rows row = (p : ℕ) → address_of row ≤ p → p < group_end row → row_over rows p ≡ Some row

-- items stand in an image from an address on, by the address of each label
abbrev pub ItemsStand : Image → (ℕ → ℕ) → ℕ → List Item → Type 0
ItemsStand i label p [] = ⊤
ItemsStand i label p (item.Inst x ∷ is) = Stands i.code p x × ItemsStand i label (p + 4) is
ItemsStand i label p (item.Label l ∷ is) = (label l ≡ p) × ItemsStand i label p is
ItemsStand i label p (item.BranchTo form l ∷ is) = Branches i.code p (branch form) (label l) × ItemsStand i label (p + 4) is
ItemsStand i label p (item.AddressOf r l ∷ is) =
    (Stands i.code p (Movz r 0 (label l % 2 ^ 16)) × Stands i.code (p + 4) (Movk r 1 (label l / 2 ^ 16))) × ItemsStand i label (p + 4 + 4) is
ItemsStand i label p (item.Mark m ∷ is) = ⊥
ItemsStand i label p (item.Note n ∷ is) = IsOver i.map.rows (row_of label p n) × ItemsStand i label p is

-- a mark of a cell has the cell's word, and one of an array has its cells and the first one's word
abbrev pub HasItsWord : List ℕ → Mark → Type 0
HasItsWord cells (UseCell cell index) = slice_get cells cell ≡ Some index
HasItsWord cells (DefCell cell index) = slice_get cells cell ≡ Some index
HasItsWord cells (UseAt cell len index) = AreElements cells cell len index
HasItsWord cells (DefAt cell len index) = AreElements cells cell len index
HasItsWord cells _ = ⊤

-- the group of a mark stands just where the group of its row stands
abbrev pub GroupsAreThoseOfRows : Type 0
GroupsAreThoseOfRows =
    (i : Image) (label : ℕ → ℕ) (p : ℕ) (m : Mark) → HasItsWord i.cells m
    → ItemsStand i label p (group m) ↔ IsGroup i.code i.cells (row_of label p (note_of m))
