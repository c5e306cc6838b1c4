-- The code of the lines whose operands are locals alone, by the homes of these locals (the instructions are those of the Arm A64 manual). X9, X10 and X11 are scratch, and X0 passes inputs and outputs.
use Rattle.std.specs.Prelude.{◌/◌, ◌%◌, ◌^◌, ℕ, ℤ, pos, List, [], ◌∷◌, ◌++◌}
use Rattle.oat_frames.specs.{Inst, AddReg, SubReg, SubsReg, AndReg, OrrReg, EorReg, Madd, Msub, Udiv, Sdiv, Lslv, Lsrv, Asrv, Movz, Movk, Csinc, Ldr, Str, Svc, Brk, Item, BinOp, Add, Sub, Mul, And}
use Rattle.oat_frames.specs.{Or, Xor, Shl, Shr, Sar, Eq, Ne, Lt, Le, Ltu, Leu, Div, Rem, Divu, Remu, number, Frames.Home, Frames.slot, Frames.register, Code.home_load, Code.home_store}
use Rattle.oat_frames.specs.inst as inst
use Rattle.oat_asm.specs.declared.branch_form.BranchForm.TheVariants as form
use Rattle.oat_asm.specs.declared.item.Item.TheVariants as item
use Rattle.oat_asm.specs.declared.note.Note.TheVariants as note

-- ---- three operands

-- the register in which an operand is found, or a result put: that of its home, or else this scratch register
abbrev pub operand_in : ℕ → Home → ℕ
operand_in r (slot k) = r
operand_in r (register q) = q

-- what brings it there, and what takes it from there: nothing where the home is a register
abbrev pub operand_load : ℕ → Home → List Item
operand_load r (slot k) = item.Inst (Ldr r 31 k) ∷ []
operand_load r (register q) = []

abbrev pub operand_store : ℕ → Home → List Item
operand_store r (slot k) = item.Inst (Str r 31 k) ∷ []
operand_store r (register q) = []

abbrev pub one_inst : Inst → List Item
one_inst i = item.Inst i ∷ []

-- SUBS, and CSET under a condition: CSINC of two zero registers under the flipped one, which is given here
abbrev pub compared_by : ℕ → (d a b : ℕ) → List Item
compared_by flipped d a b = item.Inst (SubsReg 31 a b) ∷ item.Inst (Csinc d 31 31 flipped) ∷ []

-- a divisor of 0 traps
abbrev pub divisor_tested : ℕ → List Item → List Item
divisor_tested b is = item.Note note.Check ∷ item.Inst (inst.Cbnz b (pos 2)) ∷ item.Inst (Brk 1) ∷ is

-- registers a and b are the operands, and then register d is the result
abbrev pub operation_code : BinOp → (d a b : ℕ) → List Item
operation_code Add d a b = one_inst (AddReg d a b 0)
operation_code Sub d a b = one_inst (SubReg d a b)
operation_code Mul d a b = one_inst (Madd d a b 31)
operation_code And d a b = one_inst (AndReg d a b)
operation_code Or d a b = one_inst (OrrReg d a b)
operation_code Xor d a b = one_inst (EorReg d a b)
operation_code Shl d a b = one_inst (Lslv d a b)
operation_code Shr d a b = one_inst (Lsrv d a b)
operation_code Sar d a b = one_inst (Asrv d a b)
operation_code Eq d a b = compared_by 1 d a b
operation_code Ne d a b = compared_by 0 d a b
operation_code Lt d a b = compared_by 10 d a b
operation_code Le d a b = compared_by 12 d a b
operation_code Ltu d a b = compared_by 2 d a b
operation_code Leu d a b = compared_by 8 d a b
operation_code Div d a b = divisor_tested b (one_inst (Sdiv d a b))
operation_code Rem d a b = divisor_tested b (item.Inst (Sdiv 11 a b) ∷ one_inst (Msub d 11 b a))
operation_code Divu d a b = divisor_tested b (one_inst (Udiv d a b))
operation_code Remu d a b = divisor_tested b (item.Inst (Udiv 11 a b) ∷ one_inst (Msub d 11 b a))

-- X = Y op Z
abbrev pub binary_code : BinOp → Home → Home → Home → List Item
binary_code op x y z =
    operand_load 9 y ++ (operand_load 10 z ++ (operation_code op (operand_in 9 x) (operand_in 9 y) (operand_in 10 z) ++ operand_store 9 x))

-- how many words that code has at most
abbrev pub binary_words : BinOp → ℕ
binary_words Div = 6
binary_words Rem = 7
binary_words Divu = 6
binary_words Remu = 7
binary_words Eq = 5
binary_words Ne = 5
binary_words Lt = 5
binary_words Le = 5
binary_words Ltu = 5
binary_words Leu = 5
binary_words _ = 4

-- ---- others

-- the quarters of a number of 64 bits go into X9
abbrev pub quarters_moved : ℕ → List Item → List Item
quarters_moved n is =
    item.Inst (Movz 9 0 (n % 2 ^ 16)) ∷ item.Inst (Movk 9 1 (n / 2 ^ 16 % 2 ^ 16)) ∷ item.Inst (Movk 9 2 (n / 2 ^ 32 % 2 ^ 16)) ∷ item.Inst (Movk 9 3 (n / 2 ^ 48)) ∷ is

abbrev pub const_code : Home → ℤ → List Item
const_code x value = quarters_moved (number value) (home_store 9 x ∷ [])

abbrev pub copy_code : Home → Home → List Item
copy_code x y = home_load 9 y ∷ home_store 9 x ∷ []

abbrev pub input_code : Home → List Item
input_code x = item.Inst (Svc 8) ∷ home_store 0 x ∷ []

abbrev pub output_code : Home → List Item
output_code x = home_load 0 x ∷ one_inst (Svc 9)

-- ---- terminators, by the labels of blocks

abbrev pub jump_code : ℕ → List Item
jump_code to = item.Note (note.Jump to) ∷ item.BranchTo form.B to ∷ []

abbrev pub branch_code : Home → ℕ → ℕ → List Item
branch_code x first second =
    home_load 9 x ∷ item.Note (note.Branch first second) ∷ item.Inst (Svc 3) ∷ item.BranchTo (form.Cbnz 9) first ∷ item.BranchTo form.B second ∷ []

abbrev pub halt_code : List Item
halt_code = one_inst (Svc 0)
