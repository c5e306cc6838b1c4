-- The instruction table: which words the A64 instructions of the device have, by the encodings of the Arm A64 manual, "A64 base instructions".
use Rattle.std.specs.Prelude.{◌≡◌, ℕ, suc, ◌+◌, ◌-◌, ◌*◌, ◌^◌, ◌<◌, ◌||◌, nat_eq, Bool, IsTrue, List, [], ◌∷◌, sum_by, ℤ, pos, negsuc, ⊤}
use Rattle.oat_a64.specs.{declared.inst.Inst.Inst, declared.inst.Inst.TheVariants.AddImm, declared.inst.Inst.TheVariants.SubImm, declared.inst.Inst.TheVariants.SubsImm}
use Rattle.oat_a64.specs.{declared.inst.Inst.TheVariants.AddReg, declared.inst.Inst.TheVariants.SubReg, declared.inst.Inst.TheVariants.SubsReg, declared.inst.Inst.TheVariants.AndReg}
use Rattle.oat_a64.specs.{declared.inst.Inst.TheVariants.OrrReg, declared.inst.Inst.TheVariants.EorReg, declared.inst.Inst.TheVariants.Madd, declared.inst.Inst.TheVariants.Msub}
use Rattle.oat_a64.specs.{declared.inst.Inst.TheVariants.Udiv, declared.inst.Inst.TheVariants.Sdiv, declared.inst.Inst.TheVariants.Lslv, declared.inst.Inst.TheVariants.Lsrv}
use Rattle.oat_a64.specs.{declared.inst.Inst.TheVariants.Asrv, declared.inst.Inst.TheVariants.Movz, declared.inst.Inst.TheVariants.Movk, declared.inst.Inst.TheVariants.Csinc}
use Rattle.oat_a64.specs.{declared.inst.Inst.TheVariants.Ldr, declared.inst.Inst.TheVariants.Str, declared.inst.Inst.TheVariants.LdrReg, declared.inst.Inst.TheVariants.StrReg}
use Rattle.oat_a64.specs.{declared.inst.Inst.TheVariants.B, declared.inst.Inst.TheVariants.Bl, declared.inst.Inst.TheVariants.BCond, declared.inst.Inst.TheVariants.Cbz}
use Rattle.oat_a64.specs.{declared.inst.Inst.TheVariants.Cbnz, declared.inst.Inst.TheVariants.Blr, declared.inst.Inst.TheVariants.Ret, declared.inst.Inst.TheVariants.Svc}
use Rattle.oat_a64.specs.{declared.inst.Inst.TheVariants.Brk, declared.inst.Inst.TheVariants.Nop}

-- A field of a word: the place of its lowest bit, its width and its number. A condition has four bits.
pub data Part : Type 0 where
  unsigned : ℕ → ℕ → ℕ → Part
  signed : ℕ → ℕ → ℤ → Part
  condition : ℕ → ℕ → Part

-- EQ, NE, HS, LO, HI, LS, GE, LT, GT and LE, by the manual's table of condition codes
abbrev pub is_condition : ℕ → Bool
is_condition c = nat_eq c 0 || nat_eq c 1 || nat_eq c 2 || nat_eq c 3 || nat_eq c 8 || nat_eq c 9 || nat_eq c 10 || nat_eq c 11 || nat_eq c 12 || nat_eq c 13

-- a number from -2^(width - 1) to 2^(width - 1) - 1
abbrev pub FitsSigned : ℕ → ℤ → Type 0
FitsSigned width (pos n) = 2 * n < 2 ^ width
FitsSigned width (negsuc n) = 2 * n < 2 ^ width

abbrev pub twos_complement : ℕ → ℤ → ℕ
twos_complement width (pos n) = n
twos_complement width (negsuc n) = 2 ^ width - suc n

abbrev pub IsPartInRange : Part → Type 0
IsPartInRange (unsigned low width n) = n < 2 ^ width
IsPartInRange (signed low width z) = FitsSigned width z
IsPartInRange (condition low c) = IsTrue (is_condition c)

abbrev pub number_of : Part → ℕ
number_of (unsigned low width n) = n * 2 ^ low
number_of (signed low width z) = twos_complement width z * 2 ^ low
number_of (condition low c) = c * 2 ^ low

-- A form's word with zeros in its fields, and the fields.
pub record Form : Type 0 where
  pub base : ℕ
  pub parts : List Part

abbrev pub form : ℕ → List Part → Form
form base parts = record { base = base; parts = parts }

-- One row for each form, under the name of its section.
abbrev pub form_of : Inst → Form
-- ADD (immediate)
form_of (AddImm rd rn imm) = form 0x91000000 (unsigned 0 5 rd ∷ unsigned 5 5 rn ∷ unsigned 10 12 imm ∷ [])
-- SUB (immediate)
form_of (SubImm rd rn imm) = form 0xD1000000 (unsigned 0 5 rd ∷ unsigned 5 5 rn ∷ unsigned 10 12 imm ∷ [])
-- SUBS (immediate)
form_of (SubsImm rd rn imm) = form 0xF1000000 (unsigned 0 5 rd ∷ unsigned 5 5 rn ∷ unsigned 10 12 imm ∷ [])
-- ADD (shifted register)
form_of (AddReg rd rn rm amount) = form 0x8B000000 (unsigned 0 5 rd ∷ unsigned 5 5 rn ∷ unsigned 16 5 rm ∷ unsigned 10 6 amount ∷ [])
-- SUB (shifted register)
form_of (SubReg rd rn rm) = form 0xCB000000 (unsigned 0 5 rd ∷ unsigned 5 5 rn ∷ unsigned 16 5 rm ∷ [])
-- SUBS (shifted register)
form_of (SubsReg rd rn rm) = form 0xEB000000 (unsigned 0 5 rd ∷ unsigned 5 5 rn ∷ unsigned 16 5 rm ∷ [])
-- AND (shifted register)
form_of (AndReg rd rn rm) = form 0x8A000000 (unsigned 0 5 rd ∷ unsigned 5 5 rn ∷ unsigned 16 5 rm ∷ [])
-- ORR (shifted register)
form_of (OrrReg rd rn rm) = form 0xAA000000 (unsigned 0 5 rd ∷ unsigned 5 5 rn ∷ unsigned 16 5 rm ∷ [])
-- EOR (shifted register)
form_of (EorReg rd rn rm) = form 0xCA000000 (unsigned 0 5 rd ∷ unsigned 5 5 rn ∷ unsigned 16 5 rm ∷ [])
-- MADD
form_of (Madd rd rn rm ra) = form 0x9B000000 (unsigned 0 5 rd ∷ unsigned 5 5 rn ∷ unsigned 16 5 rm ∷ unsigned 10 5 ra ∷ [])
-- MSUB
form_of (Msub rd rn rm ra) = form 0x9B008000 (unsigned 0 5 rd ∷ unsigned 5 5 rn ∷ unsigned 16 5 rm ∷ unsigned 10 5 ra ∷ [])
-- UDIV
form_of (Udiv rd rn rm) = form 0x9AC00800 (unsigned 0 5 rd ∷ unsigned 5 5 rn ∷ unsigned 16 5 rm ∷ [])
-- SDIV
form_of (Sdiv rd rn rm) = form 0x9AC00C00 (unsigned 0 5 rd ∷ unsigned 5 5 rn ∷ unsigned 16 5 rm ∷ [])
-- LSLV
form_of (Lslv rd rn rm) = form 0x9AC02000 (unsigned 0 5 rd ∷ unsigned 5 5 rn ∷ unsigned 16 5 rm ∷ [])
-- LSRV
form_of (Lsrv rd rn rm) = form 0x9AC02400 (unsigned 0 5 rd ∷ unsigned 5 5 rn ∷ unsigned 16 5 rm ∷ [])
-- ASRV
form_of (Asrv rd rn rm) = form 0x9AC02800 (unsigned 0 5 rd ∷ unsigned 5 5 rn ∷ unsigned 16 5 rm ∷ [])
-- MOVZ
form_of (Movz rd hw imm) = form 0xD2800000 (unsigned 0 5 rd ∷ unsigned 21 2 hw ∷ unsigned 5 16 imm ∷ [])
-- MOVK
form_of (Movk rd hw imm) = form 0xF2800000 (unsigned 0 5 rd ∷ unsigned 21 2 hw ∷ unsigned 5 16 imm ∷ [])
-- CSINC
form_of (Csinc rd rn rm cond) = form 0x9A800400 (unsigned 0 5 rd ∷ unsigned 5 5 rn ∷ unsigned 16 5 rm ∷ condition 12 cond ∷ [])
-- LDR (immediate), unsigned offset
form_of (Ldr rt rn imm) = form 0xF9400000 (unsigned 0 5 rt ∷ unsigned 5 5 rn ∷ unsigned 10 12 imm ∷ [])
-- STR (immediate), unsigned offset
form_of (Str rt rn imm) = form 0xF9000000 (unsigned 0 5 rt ∷ unsigned 5 5 rn ∷ unsigned 10 12 imm ∷ [])
-- LDR (register), with LSL 3
form_of (LdrReg rt rn rm) = form 0xF8607800 (unsigned 0 5 rt ∷ unsigned 5 5 rn ∷ unsigned 16 5 rm ∷ [])
-- STR (register), with LSL 3
form_of (StrReg rt rn rm) = form 0xF8207800 (unsigned 0 5 rt ∷ unsigned 5 5 rn ∷ unsigned 16 5 rm ∷ [])
-- B
form_of (B offset) = form 0x14000000 (signed 0 26 offset ∷ [])
-- BL
form_of (Bl offset) = form 0x94000000 (signed 0 26 offset ∷ [])
-- B.cond
form_of (BCond cond offset) = form 0x54000000 (condition 0 cond ∷ signed 5 19 offset ∷ [])
-- CBZ
form_of (Cbz rt offset) = form 0xB4000000 (unsigned 0 5 rt ∷ signed 5 19 offset ∷ [])
-- CBNZ
form_of (Cbnz rt offset) = form 0xB5000000 (unsigned 0 5 rt ∷ signed 5 19 offset ∷ [])
-- BLR
form_of (Blr rn) = form 0xD63F0000 (unsigned 5 5 rn ∷ [])
-- RET
form_of (Ret rn) = form 0xD65F0000 (unsigned 5 5 rn ∷ [])
-- SVC
form_of (Svc imm) = form 0xD4000001 (unsigned 5 16 imm ∷ [])
-- BRK
form_of (Brk imm) = form 0xD4200000 (unsigned 5 16 imm ∷ [])
-- NOP
form_of Nop = form 0xD503201F []

abbrev pub ArePartsInRange : List Part → Type 0
ArePartsInRange [] = ⊤
ArePartsInRange (p ∷ ps) = IsPartInRange p × ArePartsInRange ps

-- Each field fits its width, and a condition is one of the ten.
abbrev pub IsInRange : Inst → Type 0
IsInRange i = ArePartsInRange (form_of i).parts

-- the form's base and each field times its power of two
abbrev pub word_of : Inst → ℕ
word_of i = (form_of i).base + sum_by number_of (form_of i).parts

-- The word of an instruction whose fields are in range.
abbrev pub Word : Inst → ℕ → Type 0
Word i w = IsInRange i × (w ≡ word_of i)
