-- The code of a call, of a function's start and of a return, as items (the instructions are those of the Arm A64 manual).
use Rattle.std.specs.Prelude.{◌+◌, ◌<◌, ℕ, Bool, zero, suc, pos, nat_lt, if◌then◌else◌, List, [], ◌∷◌, ◌++◌, length}
use Rattle.oat_asm.specs.{Inst, OrrReg, AddImm, SubImm, SubsImm, Ldr, Str, BCond, Cbnz, Brk, Svc, Blr, Ret, declared.branch_form.BranchForm.TheVariants.Bl, declared.item.Item.Item}
use Rattle.oat_asm.specs.{Standing.ItemsStand}
use Rattle.oat_frames.specs.Frames.{World, Home, slot, register, home_of, frame_size}
use Rattle.oat_asm.specs.declared.item.Item.TheVariants as item
use Rattle.oat_asm.specs.declared.note.Note.TheVariants as note

-- items stand in the image of a compiled program, from an address on
abbrev pub CodeStands : World → ℕ → List Item → Type 0
CodeStands w p is = ItemsStand w.image w.label p is

-- a register from where a local is held, and into it: a load or store off SP, or a move, which is ORR with the register that reads as zero
abbrev pub load_inst : ℕ → Home → Inst
load_inst r (slot k) = Ldr r 31 k
load_inst r (register q) = OrrReg r 31 q

abbrev pub store_inst : ℕ → Home → Inst
store_inst r (slot k) = Str r 31 k
store_inst r (register q) = OrrReg q 31 r

abbrev pub home_load : ℕ → Home → Item
home_load r home = item.Inst (load_inst r home)

abbrev pub home_store : ℕ → Home → Item
home_store r home = item.Inst (store_inst r home)

-- an instruction has room for the number of a home's slot or register
abbrev pub IsHome : Home → Type 0
IsHome (slot k) = k < 256
IsHome (register q) = q < 31

-- loads of these locals from their slots into registers from one on
abbrev pub argument_loads : ℕ → List ℕ → List Item
argument_loads r [] = []
argument_loads r (k ∷ ks) = item.Inst (Ldr r 31 (k + 1)) ∷ argument_loads (r + 1) ks

-- stores into the homes of n locals from one on: of parameters, then of zeros, since register 31 reads as zero
abbrev pub local_stores : (leaf : Bool) → ℕ → ℕ → ℕ → List Item
local_stores leaf params from zero = []
local_stores leaf params from (suc n) = home_store (if nat_lt from params then from else 31) (home_of leaf from) ∷ local_stores leaf params (from + 1) n

-- what a caller does behind the call
abbrev pub behind_call : ℕ → List Item
behind_call result = item.Inst (SubImm 28 28 1) ∷ item.Inst (Str 0 31 (result + 1)) ∷ []

-- the depth test, the count, and the arguments
abbrev pub depth_tested : List ℕ → List Item → List Item
depth_tested args is =
    item.Inst (SubsImm 31 28 256) ∷ item.Note note.Check ∷ item.Inst (BCond 3 (pos 2)) ∷ item.Inst (Brk 4) ∷ item.Inst (AddImm 28 28 1)
    ∷ (argument_loads 0 args ++ is)

abbrev pub call_code : List ℕ → ℕ → ℕ → List Item
call_code args callee result = depth_tested args (item.Note (note.Call callee) ∷ item.BranchTo Bl callee ∷ behind_call result)

-- a call by the reference that a local has: the null test comes first
abbrev pub icall_code : List ℕ → ℕ → ℕ → List Item
icall_code args from result =
    item.Inst (Ldr 9 31 (from + 1)) ∷ item.Note note.Check ∷ item.Inst (Cbnz 9 (pos 2)) ∷ item.Inst (Brk 3)
    ∷ depth_tested args (item.Note (note.ICall (length args)) ∷ item.Inst (Svc 4) ∷ item.Inst (Blr 9) ∷ behind_call result)

-- a function's start
abbrev pub prologue : (leaf : Bool) (params locals : ℕ) → List Item
prologue leaf params locals = item.Inst (SubImm 31 31 (frame_size locals)) ∷ item.Inst (Str 30 31 0) ∷ local_stores leaf params 0 locals

-- the result, X30, the frame's end, and the group of a return
abbrev pub return_code : (locals : ℕ) → Home → List Item
return_code locals result =
    home_load 0 result ∷ item.Inst (Ldr 30 31 0) ∷ item.Inst (AddImm 31 31 (frame_size locals))
    ∷ item.Note note.Ret ∷ item.Inst (Svc 5) ∷ item.Inst (Ret 30) ∷ []
