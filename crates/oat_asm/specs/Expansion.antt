-- The expansion of items: each mark becomes the note of its row and the row's group (docs/FORMATS.md, the groups; the instructions are those of the Arm A64 manual).
use Rattle.std.specs.{Prelude.ℕ, Prelude.pos, Prelude.List, Prelude.[], Prelude.◌∷◌, Prelude.◌++◌, Prelude.map, List.flat_map}
use Rattle.oat_shape.specs.{global_address}
use Rattle.oat_asm.specs.{declared.branch_form.BranchForm.TheVariants.B, declared.branch_form.BranchForm.TheVariants.Bl, declared.branch_form.BranchForm.TheVariants.Cbnz, declared.mark.Mark.Mark}
use Rattle.oat_asm.specs.{declared.note.Note.Note, declared.item.Item.Item, Layout.puts}
use Rattle.oat_a64.specs.declared.inst.Inst.TheVariants as inst
use Rattle.oat_asm.specs.declared.mark.Mark.TheVariants as mark
use Rattle.oat_asm.specs.declared.note.Note.TheVariants as note
use Rattle.oat_asm.specs.declared.item.Item.TheVariants as item

abbrev pub note_of : Mark → Note
note_of (mark.Jump to) = note.Jump to
note_of (mark.Branch taken other) = note.Branch taken other
note_of (mark.Call to) = note.Call to
note_of (mark.ICall params) = note.ICall params
note_of mark.Ret = note.Ret
note_of (mark.Begin op) = note.Begin op
note_of (mark.End op) = note.End op
note_of (mark.UseCell cell index) = note.UseCell cell index
note_of (mark.DefCell cell index) = note.DefCell cell index
note_of (mark.UseAt cell len index) = note.UseAt cell len index
note_of (mark.DefAt cell len index) = note.DefAt cell len index

-- the test of an element's number, which X12 has, against a length; it skips the trap where the number is lower
abbrev pub element_test : ℕ → List Item
element_test len =
    item.Inst (inst.Movz 11 0 len) ∷ item.Inst (inst.SubsReg 31 12 11) ∷ item.Inst (inst.BCond 3 (pos 2)) ∷ item.Inst (inst.Brk 2) ∷ []

-- The group of a mark's row. Registers: 9 has the bit, the target, the operation or the cell, 10 the value, 11 the cell's address, 12 an element's number, and 30 is the link register.
abbrev pub group : Mark → List Item
group (mark.Jump to) = item.BranchTo B to ∷ []
group (mark.Branch taken other) = item.Inst (inst.Svc 3) ∷ item.BranchTo (Cbnz 9) taken ∷ item.BranchTo B other ∷ []
group (mark.Call to) = item.BranchTo Bl to ∷ []
group (mark.ICall params) = item.Inst (inst.Svc 4) ∷ item.Inst (inst.Blr 9) ∷ []
group mark.Ret = item.Inst (inst.Svc 5) ∷ item.Inst (inst.Ret 30) ∷ []
group (mark.Begin op) = item.Inst (inst.Movz 9 0 op) ∷ item.Inst (inst.Svc 1) ∷ []
group (mark.End op) = item.Inst (inst.Movz 9 0 op) ∷ item.Inst (inst.Svc 2) ∷ []
group (mark.UseCell cell index) =
    map item.Inst (puts 11 (global_address index))
    ++ item.Inst (inst.Ldr 10 11 0) ∷ item.Inst (inst.Movz 9 0 cell) ∷ item.Inst (inst.Svc 7) ∷ []
group (mark.DefCell cell index) =
    map item.Inst (puts 11 (global_address index))
    ++ item.Inst (inst.Movz 9 0 cell) ∷ item.Inst (inst.Str 10 11 0) ∷ item.Inst (inst.Svc 6) ∷ []
group (mark.UseAt cell len index) =
    element_test len ++ map item.Inst (puts 11 (global_address index))
    ++ item.Inst (inst.LdrReg 10 11 12) ∷ item.Inst (inst.Movz 9 0 cell) ∷ item.Inst (inst.AddReg 9 9 12 0) ∷ item.Inst (inst.Svc 7) ∷ []
group (mark.DefAt cell len index) =
    element_test len ++ map item.Inst (puts 11 (global_address index))
    ++ item.Inst (inst.Movz 9 0 cell) ∷ item.Inst (inst.AddReg 9 9 12 0) ∷ item.Inst (inst.StrReg 10 11 12) ∷ item.Inst (inst.Svc 6) ∷ []

abbrev pub expanded : Item → List Item
expanded (item.Inst i) = item.Inst i ∷ []
expanded (item.Label label) = item.Label label ∷ []
expanded (item.BranchTo form label) = item.BranchTo form label ∷ []
expanded (item.AddressOf register label) = item.AddressOf register label ∷ []
expanded (item.Mark m) = item.Note (note_of m) ∷ group m
expanded (item.Note n) = item.Note n ∷ []

-- the items with each mark expanded
abbrev pub expansion : List Item → List Item
expansion items = flat_map expanded items
