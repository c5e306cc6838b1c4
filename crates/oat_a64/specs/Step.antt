-- The machine step: how an instruction is fetched and what it does, one row for each form of the device's A64 instructions, by the operation of its section in the Arm A64 manual, "A64 base instructions".
use Rattle.std.specs.{Prelude.◌≡◌, Prelude.ℕ, Prelude.suc, Prelude.◌+◌, Prelude.◌-◌, Prelude.◌*◌, Prelude.◌/◌, Prelude.◌%◌, Prelude.◌^◌, Prelude.◌<◌, Prelude.Bool, Prelude.false, Prelude.not}
use Rattle.std.specs.{Prelude.◌&&◌, Prelude.◌||◌, Prelude.nat_eq, Prelude.nat_lt, Prelude.nat_le, Prelude.if◌then◌else◌, Prelude.Option, Prelude.Some, Prelude.None, Prelude.List, Prelude.slice_get}
use Rattle.std.specs.{Prelude.option_and_then, Prelude.ℤ, Prelude.pos, Prelude.negsuc, Prelude.◌-ℤ◌, Prelude.bit_and, Prelude.bit_or, Prelude.bit_xor, Bool.beq}
use Rattle.oat_bits.specs.Field.{with_field}
use Rattle.oat_mem.specs.DataMemory.{can_access, word_in, with_word, IsBytes}
use Rattle.oat_a64.specs.{declared.event.Event.Event, declared.event.FaultKind.FaultKind, declared.event.FaultKind.TheVariants.Access, declared.event.FaultKind.TheVariants.Fetch}
use Rattle.oat_a64.specs.{declared.event.FaultKind.TheVariants.Undefined, declared.inst.Inst.Inst, declared.inst.Inst.TheVariants.AddImm, declared.inst.Inst.TheVariants.SubImm}
use Rattle.oat_a64.specs.{declared.inst.Inst.TheVariants.SubsImm, declared.inst.Inst.TheVariants.AddReg, declared.inst.Inst.TheVariants.SubReg, declared.inst.Inst.TheVariants.SubsReg}
use Rattle.oat_a64.specs.{declared.inst.Inst.TheVariants.AndReg, declared.inst.Inst.TheVariants.OrrReg, declared.inst.Inst.TheVariants.EorReg, declared.inst.Inst.TheVariants.Madd}
use Rattle.oat_a64.specs.{declared.inst.Inst.TheVariants.Msub, declared.inst.Inst.TheVariants.Udiv, declared.inst.Inst.TheVariants.Sdiv, declared.inst.Inst.TheVariants.Lslv}
use Rattle.oat_a64.specs.{declared.inst.Inst.TheVariants.Lsrv, declared.inst.Inst.TheVariants.Asrv, declared.inst.Inst.TheVariants.Movz, declared.inst.Inst.TheVariants.Movk}
use Rattle.oat_a64.specs.{declared.inst.Inst.TheVariants.Csinc, declared.inst.Inst.TheVariants.Ldr, declared.inst.Inst.TheVariants.Str, declared.inst.Inst.TheVariants.LdrReg}
use Rattle.oat_a64.specs.{declared.inst.Inst.TheVariants.StrReg, declared.inst.Inst.TheVariants.B, declared.inst.Inst.TheVariants.Bl, declared.inst.Inst.TheVariants.BCond}
use Rattle.oat_a64.specs.{declared.inst.Inst.TheVariants.Cbz, declared.inst.Inst.TheVariants.Cbnz, declared.inst.Inst.TheVariants.Blr, declared.inst.Inst.TheVariants.Ret}
use Rattle.oat_a64.specs.{declared.inst.Inst.TheVariants.Svc, declared.inst.Inst.TheVariants.Brk, declared.inst.Inst.TheVariants.Nop, Fetch.fits_signed, Fetch.inst_of}
use Rattle.oat_a64.specs.declared.event.Event.TheVariants as event
pub use Rattle.oat_bits.specs.Words.{wrap, difference, signed, unsigned, unsigned_quotient, signed_quotient, shifted_left, shifted_right, shifted_right_signed}

-- X0 to X30 by number, the stack pointer, the program counter, and the condition flags
pub record Regs : Type 0 where
  pub x : ℕ → ℕ
  pub sp : ℕ
  pub pc : ℕ
  pub n : Bool
  pub z : Bool
  pub c : Bool
  pub v : Bool

-- the registers, and the byte at each data address
pub record Machine : Type 0 where
  pub regs : Regs
  pub memory : ℕ → ℕ

-- the machine that an instruction leaves, and what it tells
pub record Effect : Type 0 where
  pub machine : Machine
  pub event : Event

-- a number with other 16 bits from a place on
abbrev pub with_bits : ℕ → ℕ → ℕ → ℕ
with_bits value low bits = wrap (with_field low 16 value bits)

-- ---- registers

-- X[n]: register 31 reads as zero
abbrev pub reg : Regs → ℕ → ℕ
reg r n = if nat_lt n 31 then r.x n else 0

-- X[n] or SP: register 31 is the stack pointer
abbrev pub reg_or_sp : Regs → ℕ → ℕ
reg_or_sp r n = if nat_eq n 31 then r.sp else reg r n

-- a write to register 31 is dropped
abbrev pub set : (ℕ → ℕ) → ℕ → ℕ → (ℕ → ℕ)
set x n value = λ k. if nat_eq k n && nat_lt n 31 then value else x k

abbrev pub with_reg : Regs → ℕ → ℕ → Regs
with_reg r n value = record r { x = set r.x n value }

abbrev pub with_reg_or_sp : Regs → ℕ → ℕ → Regs
with_reg_or_sp r n value =
    record r { x = set r.x n value; sp = if nat_eq n 31 then value else r.sp }

-- The flags of a subtraction: N is the difference's sign, Z that it is zero, C that nothing was borrowed, V that the signed difference does not fit.
abbrev pub with_flags : Regs → ℕ → ℕ → Regs
with_flags r a b =
    record r { n = nat_le (2 ^ 63) (difference a b); z = nat_eq (difference a b) 0; c = nat_le b a; v = not (fits_signed 64 (signed a -ℤ signed b)) }

-- ConditionHolds, at the ten conditions of the device
abbrev pub holds : ℕ → Regs → Bool
holds cond r =
    if nat_eq cond 0 then r.z  -- EQ
    else (if nat_eq cond 1 then not r.z  -- NE
    else (if nat_eq cond 2 then r.c  -- HS
    else (if nat_eq cond 3 then not r.c  -- LO
    else (if nat_eq cond 8 then r.c && not r.z  -- HI
    else (if nat_eq cond 9 then not r.c || r.z  -- LS
    else (if nat_eq cond 10 then beq r.n r.v  -- GE
    else (if nat_eq cond 11 then not (beq r.n r.v)  -- LT
    else (if nat_eq cond 12 then not r.z && beq r.n r.v  -- GT
    else (if nat_eq cond 13 then r.z || not (beq r.n r.v)  -- LE
    else false)))))))))

-- ---- where an instruction leads

abbrev pub next_pc : ℕ → ℕ
next_pc pc = wrap (pc + 4)

-- an offset counts words from the branch itself
abbrev pub branch_target : ℕ → ℤ → ℕ
branch_target pc (pos words) = wrap (pc + 4 * words)
branch_target pc (negsuc words) = difference pc (4 * suc words)

abbrev pub effect : Machine → Event → Effect
effect m told = record { machine = m; event = told }

-- nothing has changed
abbrev pub fault : Machine → FaultKind → Effect
fault m kind = effect m (event.Fault kind)

-- with these registers on to the next instruction
abbrev pub goes_on : Machine → Regs → Effect
goes_on m r = effect (record m { regs = record r { pc = next_pc r.pc } }) event.Next

abbrev pub jumps : Machine → Regs → ℕ → Effect
jumps m r address = effect (record m { regs = record r { pc = address } }) event.Next

abbrev pub jumps_if : Bool → Machine → ℕ → Effect
jumps_if test m address = if test then jumps m m.regs address else goes_on m m.regs

-- the address of the next instruction goes into X30
abbrev pub links : Machine → ℕ → Effect
links m address = jumps m (with_reg m.regs 30 (next_pc m.regs.pc)) address

abbrev pub subtracts : Machine → ℕ → ℕ → ℕ → Effect
subtracts m rd a b = goes_on m (with_reg (with_flags m.regs a b) rd (difference a b))

abbrev pub loads : Machine → ℕ → ℕ → Effect
loads m rt address =
    if can_access address then goes_on m (with_reg m.regs rt (word_in m.memory address))
    else fault m (Access address)

abbrev pub stores : Machine → ℕ → ℕ → Effect
stores m rt address =
    if can_access address then goes_on (record m { memory = with_word m.memory address (reg m.regs rt) }) m.regs
    else fault m (Access address)

-- a monitor call has a number up to 9
abbrev pub calls_monitor : Machine → ℕ → Effect
calls_monitor m number =
    if nat_le number 9 then effect (goes_on m m.regs).machine (event.Svc number)
    else fault m (Undefined m.regs.pc)

-- a trap has a number from 1 to 4
abbrev pub traps : Machine → ℕ → Effect
traps m number =
    if nat_le 1 number && nat_le number 4 then effect m (event.Brk number)
    else fault m (Undefined m.regs.pc)

-- ---- one row for each form, under the name of its section

abbrev pub act : Inst → Machine → Effect
-- ADD (immediate)
act (AddImm rd rn imm) m = goes_on m (with_reg_or_sp m.regs rd (wrap (reg_or_sp m.regs rn + imm)))
-- SUB (immediate)
act (SubImm rd rn imm) m = goes_on m (with_reg_or_sp m.regs rd (difference (reg_or_sp m.regs rn) imm))
-- SUBS (immediate)
act (SubsImm rd rn imm) m = subtracts m rd (reg_or_sp m.regs rn) imm
-- ADD (shifted register)
act (AddReg rd rn rm amount) m =
    goes_on m (with_reg m.regs rd (wrap (reg m.regs rn + shifted_left (reg m.regs rm) amount)))
-- SUB (shifted register)
act (SubReg rd rn rm) m = goes_on m (with_reg m.regs rd (difference (reg m.regs rn) (reg m.regs rm)))
-- SUBS (shifted register)
act (SubsReg rd rn rm) m = subtracts m rd (reg m.regs rn) (reg m.regs rm)
-- AND (shifted register)
act (AndReg rd rn rm) m = goes_on m (with_reg m.regs rd (bit_and (reg m.regs rn) (reg m.regs rm)))
-- ORR (shifted register)
act (OrrReg rd rn rm) m = goes_on m (with_reg m.regs rd (bit_or (reg m.regs rn) (reg m.regs rm)))
-- EOR (shifted register)
act (EorReg rd rn rm) m = goes_on m (with_reg m.regs rd (bit_xor (reg m.regs rn) (reg m.regs rm)))
-- MADD
act (Madd rd rn rm ra) m =
    goes_on m (with_reg m.regs rd (wrap (reg m.regs ra + reg m.regs rn * reg m.regs rm)))
-- MSUB
act (Msub rd rn rm ra) m =
    goes_on m (with_reg m.regs rd (difference (reg m.regs ra) (wrap (reg m.regs rn * reg m.regs rm))))
-- UDIV
act (Udiv rd rn rm) m =
    goes_on m (with_reg m.regs rd (unsigned_quotient (reg m.regs rn) (reg m.regs rm)))
-- SDIV
act (Sdiv rd rn rm) m =
    goes_on m (with_reg m.regs rd (signed_quotient (reg m.regs rn) (reg m.regs rm)))
-- LSLV
act (Lslv rd rn rm) m =
    goes_on m (with_reg m.regs rd (shifted_left (reg m.regs rn) (reg m.regs rm % 64)))
-- LSRV
act (Lsrv rd rn rm) m =
    goes_on m (with_reg m.regs rd (shifted_right (reg m.regs rn) (reg m.regs rm % 64)))
-- ASRV
act (Asrv rd rn rm) m =
    goes_on m (with_reg m.regs rd (shifted_right_signed (reg m.regs rn) (reg m.regs rm % 64)))
-- MOVZ
act (Movz rd hw imm) m = goes_on m (with_reg m.regs rd (shifted_left imm (16 * hw)))
-- MOVK
act (Movk rd hw imm) m = goes_on m (with_reg m.regs rd (with_bits (reg m.regs rd) (16 * hw) imm))
-- CSINC
act (Csinc rd rn rm cond) m =
    goes_on m (with_reg m.regs rd (if holds cond m.regs then reg m.regs rn else wrap (reg m.regs rm + 1)))
-- LDR (immediate), unsigned offset
act (Ldr rt rn imm) m = loads m rt (wrap (reg_or_sp m.regs rn + 8 * imm))
-- STR (immediate), unsigned offset
act (Str rt rn imm) m = stores m rt (wrap (reg_or_sp m.regs rn + 8 * imm))
-- LDR (register), with LSL 3
act (LdrReg rt rn rm) m = loads m rt (wrap (reg_or_sp m.regs rn + 8 * reg m.regs rm))
-- STR (register), with LSL 3
act (StrReg rt rn rm) m = stores m rt (wrap (reg_or_sp m.regs rn + 8 * reg m.regs rm))
-- B
act (B offset) m = jumps m m.regs (branch_target m.regs.pc offset)
-- BL
act (Bl offset) m = links m (branch_target m.regs.pc offset)
-- B.cond
act (BCond cond offset) m = jumps_if (holds cond m.regs) m (branch_target m.regs.pc offset)
-- CBZ
act (Cbz rt offset) m = jumps_if (nat_eq (reg m.regs rt) 0) m (branch_target m.regs.pc offset)
-- CBNZ
act (Cbnz rt offset) m = jumps_if (not (nat_eq (reg m.regs rt) 0)) m (branch_target m.regs.pc offset)
-- BLR
act (Blr rn) m = links m (reg m.regs rn)
-- RET
act (Ret rn) m = jumps m m.regs (reg m.regs rn)
-- SVC
act (Svc number) m = calls_monitor m number
-- BRK
act (Brk number) m = traps m number
-- NOP
act Nop m = goes_on m m.regs

-- ---- fetch, decode and act

abbrev pub code_base : ℕ
code_base = 0x10000

-- the word of code at an address that is a multiple of 4
abbrev pub word_at : List ℕ → ℕ → Option ℕ
word_at code address =
    if nat_eq (address % 4) 0 && nat_le code_base address then slice_get code ((address - code_base) / 4)
    else None

-- the instruction at an address of code
abbrev pub instruction_at : List ℕ → ℕ → Option Inst
instruction_at code address = option_and_then inst_of (word_at code address)

abbrev pub acts : Option Inst → Machine → Effect
acts None m = fault m (Undefined m.regs.pc)
acts (Some i) m = act i m

abbrev pub decodes : Option ℕ → Machine → Effect
decodes None m = fault m (Fetch m.regs.pc)
decodes (Some word) m = acts (inst_of word) m

unfoldable pub step : List ℕ → Machine → Effect
step code m = decodes (word_at code m.regs.pc) m

-- the registers at the start of a run
abbrev pub first_regs : Regs
first_regs =
    record { x = λ _. 0; sp = 0x8000_0000; pc = code_base; n = false; z = false; c = false; v = false }

-- ---- laws

-- a step does what the instruction at PC does; where none stands there, the machine stays as it is
abbrev pub StepActs : Type 0
StepActs = (code : List ℕ) (m : Machine) (i : Inst) → instruction_at code m.regs.pc ≡ Some i → step code m ≡ act i m

abbrev pub StepRests : Type 0
StepRests = (code : List ℕ) (m : Machine) → instruction_at code m.regs.pc ≡ None → (step code m).machine ≡ m

-- registers have 64 bits, and memory has bytes
pub record IsBounded (m : Machine) : Type 0 where
  pub x : (n : ℕ) → m.regs.x n < 2 ^ 64
  pub sp : m.regs.sp < 2 ^ 64
  pub pc : m.regs.pc < 2 ^ 64
  pub bytes : IsBytes m.memory

-- a step keeps the bounds, whatever the code
abbrev pub StepKeepsBounds : Type 0
StepKeepsBounds = (code : List ℕ) (m : Machine) → IsBounded m → IsBounded (step code m).machine
