-- Code whose rows are still to be written: a mark stands where the note of its row and the row's group will stand. All else is the code of calls, of lines on locals, and of lines on global data.
use Rattle.std.specs.Prelude.{◌+◌, ℕ, Bool, pos, List, [], ◌∷◌, ◌++◌, length, Option, Some, None}
use Rattle.oat_globals.specs.{AddImm, Ldr, Cbnz, Brk, Item, home_load, home_store, depth_tested, behind_call, prologue, Home, slot, frame_size, Code.load_code, Code.store_code, Code.loadx_code}
use Rattle.oat_globals.specs.{Code.storex_code}
use Rattle.oat_gen.specs.{declared.globals.GlobalPlace.GlobalPlace, declared.globals.GlobalPlace.TheVariants.Ordinary, declared.globals.GlobalPlace.TheVariants.Critical}
use Rattle.oat_asm.specs.declared.item.Item.TheVariants as item
use Rattle.oat_asm.specs.declared.mark.Mark.TheVariants as mark
use Rattle.oat_asm.specs.declared.note.Note.TheVariants as note

-- ---- functions: an operation begins behind its prologue, and ends before its return

abbrev pub begin_mark : Option ℕ → List Item
begin_mark None = []
begin_mark (Some op) = item.Mark (mark.Begin op) ∷ []

abbrev pub end_mark : Option ℕ → List Item
end_mark None = []
end_mark (Some op) = item.Mark (mark.End op) ∷ []

abbrev pub marked_start : (leaf : Bool) (params locals : ℕ) (op : Option ℕ) → List Item
marked_start leaf params locals op = prologue leaf params locals ++ begin_mark op

abbrev pub marked_return : (locals : ℕ) (from : Home) (op : Option ℕ) → List Item
marked_return locals from op =
    end_mark op ++ home_load 0 from ∷ item.Inst (Ldr 30 31 0) ∷ item.Inst (AddImm 31 31 (frame_size locals)) ∷ item.Mark mark.Ret ∷ []

-- ---- calls, by the label of the callee or by the reference that a local has

abbrev pub marked_call : (args : List ℕ) (callee result : ℕ) → List Item
marked_call args callee result = depth_tested args (item.Mark (mark.Call callee) ∷ behind_call result)

abbrev pub marked_icall : (args : List ℕ) (from result : ℕ) → List Item
marked_icall args from result =
    home_load 9 (slot (from + 1)) ∷ item.Note note.Check ∷ item.Inst (Cbnz 9 (pos 2)) ∷ item.Inst (Brk 3)
    ∷ depth_tested args (item.Mark (mark.ICall (length args)) ∷ behind_call result)

-- ---- jumps and branches, by the labels of blocks

abbrev pub marked_jump : ℕ → List Item
marked_jump to = item.Mark (mark.Jump to) ∷ []

abbrev pub marked_branch : (x : Home) (first second : ℕ) → List Item
marked_branch x first second = home_load 9 x ∷ item.Mark (mark.Branch first second) ∷ []

-- ---- globals, by where they lie: one test says whether a row is needed

abbrev pub scalar_load : GlobalPlace → Home → List Item
scalar_load (Ordinary word len) x = load_code x word
scalar_load (Critical word cell len) x = item.Mark (mark.UseCell cell word) ∷ home_store 10 x ∷ []

abbrev pub scalar_store : GlobalPlace → Home → List Item
scalar_store (Ordinary word len) x = store_code word x
scalar_store (Critical word cell len) x = home_load 10 x ∷ item.Mark (mark.DefCell cell word) ∷ []

abbrev pub element_load : GlobalPlace → (x i : Home) → List Item
element_load (Ordinary word len) x i = loadx_code x word len i
element_load (Critical word cell len) x i = home_load 12 i ∷ item.Mark (mark.UseAt cell len word) ∷ home_store 10 x ∷ []

abbrev pub element_store : GlobalPlace → (i x : Home) → List Item
element_store (Ordinary word len) i x = storex_code word len i x
element_store (Critical word cell len) i x = home_load 12 i ∷ home_load 10 x ∷ item.Mark (mark.DefAt cell len word) ∷ []
