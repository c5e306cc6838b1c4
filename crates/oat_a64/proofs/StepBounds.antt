-- A step keeps registers within 64 bits and memory within bytes.
use Rattle.std.proofs.Common.{ℕ, ◌+◌, ◌%◌, ◌^◌, ◌<◌, Bool, true, false, not, ◌&&◌, cond, leb, ltb, eqb, Option, Some, None, ℤ, pos, negsuc, arith, lit<}
use Rattle.std.proofs.lemmas.{Bool.cond_both, Nat.and_le_l, Nat.or_lt, Nat.xor_lt}
use Rattle.oat_bits.specs.Words.{wrap, difference}
use Rattle.oat_bits.proofs.WordLemmas.{results_are_words}
use Rattle.oat_mem.specs.DataMemory.{word_in, can_access}
use Rattle.oat_mem.proofs.Words.{words_are_bounded, memory_stays_bytes}
use Rattle.oat_a64.specs.{declared.inst.Inst.Inst, declared.inst.Inst.TheVariants.AddImm, declared.inst.Inst.TheVariants.SubImm, declared.inst.Inst.TheVariants.SubsImm}
use Rattle.oat_a64.specs.{declared.inst.Inst.TheVariants.AddReg, declared.inst.Inst.TheVariants.SubReg, declared.inst.Inst.TheVariants.SubsReg, declared.inst.Inst.TheVariants.AndReg}
use Rattle.oat_a64.specs.{declared.inst.Inst.TheVariants.OrrReg, declared.inst.Inst.TheVariants.EorReg, declared.inst.Inst.TheVariants.Madd, declared.inst.Inst.TheVariants.Msub}
use Rattle.oat_a64.specs.{declared.inst.Inst.TheVariants.Udiv, declared.inst.Inst.TheVariants.Sdiv, declared.inst.Inst.TheVariants.Lslv, declared.inst.Inst.TheVariants.Lsrv}
use Rattle.oat_a64.specs.{declared.inst.Inst.TheVariants.Asrv, declared.inst.Inst.TheVariants.Movz, declared.inst.Inst.TheVariants.Movk, declared.inst.Inst.TheVariants.Csinc}
use Rattle.oat_a64.specs.{declared.inst.Inst.TheVariants.Ldr, declared.inst.Inst.TheVariants.Str, declared.inst.Inst.TheVariants.LdrReg, declared.inst.Inst.TheVariants.StrReg}
use Rattle.oat_a64.specs.{declared.inst.Inst.TheVariants.B, declared.inst.Inst.TheVariants.Bl, declared.inst.Inst.TheVariants.BCond, declared.inst.Inst.TheVariants.Cbz}
use Rattle.oat_a64.specs.{declared.inst.Inst.TheVariants.Cbnz, declared.inst.Inst.TheVariants.Blr, declared.inst.Inst.TheVariants.Ret, declared.inst.Inst.TheVariants.Svc}
use Rattle.oat_a64.specs.{declared.inst.Inst.TheVariants.Brk, declared.inst.Inst.TheVariants.Nop, Fetch.inst_of, Step.Machine, Step.Effect, Step.IsBounded, Step.StepKeepsBounds, Step.reg}
use Rattle.oat_a64.specs.{Step.reg_or_sp, Step.set, Step.with_reg, Step.with_reg_or_sp, Step.branch_target, Step.next_pc, Step.goes_on, Step.jumps, Step.jumps_if, Step.links, Step.subtracts}
use Rattle.oat_a64.specs.{Step.loads, Step.stores, Step.act, Step.acts, Step.decodes, Step.step, Step.word_at, Step.holds}

branch_target-lt : (pc : ℕ) (z : ℤ) → branch_target pc z < 2 ^ 64
branch_target-lt pc (pos n) = omega arith
branch_target-lt pc (negsuc n) = omega arith

-- ---- machines

reg-lt : (m : Machine) → IsBounded m → (n : ℕ) → reg m.regs n < 2 ^ 64
reg-lt m b n = cond_both (ltb n 31) (m.regs.x n) 0 (λ v. v < 2 ^ 64) (λ _. b.x n) (λ _. lit< tt)

reg_or_sp-lt : (m : Machine) → IsBounded m → (n : ℕ) → reg_or_sp m.regs n < 2 ^ 64
reg_or_sp-lt m b n =
    cond_both (eqb n 31) m.regs.sp (reg m.regs n) (λ v. v < 2 ^ 64) (λ _. b.sp) (λ _. reg-lt m b n)

set-lt : (x : ℕ → ℕ) (n v : ℕ) → ((k : ℕ) → x k < 2 ^ 64) → v < 2 ^ 64 → (k : ℕ) → set x n v k < 2 ^ 64
set-lt x n v h l k = cond_both (eqb k n && ltb n 31) v (x k) (λ w. w < 2 ^ 64) (λ _. l) (λ _. h k)

-- on with a result
result : (m : Machine) → IsBounded m → (n v : ℕ) → v < 2 ^ 64 → IsBounded (goes_on m (with_reg m.regs n v)).machine
result m b n v l =
    record { x = set-lt m.regs.x n v b.x l; sp = b.sp; pc = omega arith; bytes = b.bytes }

result_or_sp : (m : Machine) → IsBounded m → (n v : ℕ) → v < 2 ^ 64 → IsBounded (goes_on m (with_reg_or_sp m.regs n v)).machine
result_or_sp m b n v l =
    record { x = set-lt m.regs.x n v b.x l; sp = cond_both (eqb n 31) v m.regs.sp (λ w. w < 2 ^ 64) (λ _. l) (λ _. b.sp); pc = omega arith; bytes = b.bytes }

moves : (m : Machine) → IsBounded m → (address : ℕ) → address < 2 ^ 64 → IsBounded (jumps m m.regs address).machine
moves m b address l = record { x = b.x; sp = b.sp; pc = l; bytes = b.bytes }

linked : (m : Machine) → IsBounded m → (address : ℕ) → address < 2 ^ 64 → IsBounded (links m address).machine
linked m b address l =
    record { x = set-lt m.regs.x 30 (next_pc m.regs.pc) b.x (omega arith); sp = b.sp; pc = l; bytes = b.bytes }

rests : (m : Machine) → IsBounded m → IsBounded (goes_on m m.regs).machine
rests m b = moves m b (next_pc m.regs.pc) (omega arith)

either : (t : Bool) (a b : Effect) → IsBounded a.machine → IsBounded b.machine → IsBounded (cond t a b).machine
either true a b p q = p
either false a b p q = q

moves_if : (t : Bool) (m : Machine) → IsBounded m → (address : ℕ) → address < 2 ^ 64 → IsBounded (jumps_if t m address).machine
moves_if t m b address l = either t _ _ (moves m b address l) (rests m b)

subtracted : (m : Machine) → IsBounded m → (rd a b : ℕ) → IsBounded (subtracts m rd a b).machine
subtracted m h rd a b =
    record { x = set-lt m.regs.x rd (difference a b) h.x (omega arith); sp = h.sp; pc = omega arith; bytes = h.bytes }

loaded : (m : Machine) → IsBounded m → (rt address : ℕ) → IsBounded (loads m rt address).machine
loaded m b rt address =
    either (can_access address) _ _ (result m b rt (word_in m.memory address) (words_are_bounded m.memory address b.bytes)) b

stored : (m : Machine) → IsBounded m → (rt address : ℕ) → IsBounded (stores m rt address).machine
stored m b rt address =
    either (can_access address) _ _ (record { x = b.x; sp = b.sp; pc = omega arith; bytes = (memory_stays_bytes m.memory address b.bytes).1 (reg m.regs rt) }) b

act-bounded : (i : Inst) (m : Machine) → IsBounded m → IsBounded (act i m).machine
act-bounded (AddImm rd rn imm) m b = result_or_sp m b rd _ (omega arith)
act-bounded (SubImm rd rn imm) m b = result_or_sp m b rd _ (omega arith)
act-bounded (SubsImm rd rn imm) m b = subtracted m b rd _ imm
act-bounded (AddReg rd rn rm amount) m b = result m b rd _ (omega arith)
act-bounded (SubReg rd rn rm) m b = result m b rd _ (omega arith)
act-bounded (SubsReg rd rn rm) m b = subtracted m b rd _ _
act-bounded (AndReg rd rn rm) m b = result m b rd _ (omega (arith, and_le_l (reg m.regs rn) (reg m.regs rm), reg-lt m b rn))
act-bounded (OrrReg rd rn rm) m b = result m b rd _ (or_lt 64 _ _ (reg-lt m b rn) (reg-lt m b rm))
act-bounded (EorReg rd rn rm) m b = result m b rd _ (xor_lt 64 _ _ (reg-lt m b rn) (reg-lt m b rm))
act-bounded (Madd rd rn rm ra) m b = result m b rd _ (omega arith)
act-bounded (Msub rd rn rm ra) m b = result m b rd _ (omega arith)
act-bounded (Udiv rd rn rm) m b = result m b rd _ (results_are_words _ (reg m.regs rm) (reg-lt m b rn)).0
act-bounded (Sdiv rd rn rm) m b = result m b rd _ (results_are_words _ (reg m.regs rm) (reg-lt m b rn)).1
act-bounded (Lslv rd rn rm) m b = result m b rd _ (omega arith)
act-bounded (Lsrv rd rn rm) m b =
    result m b rd _ (results_are_words _ (reg m.regs rm % 64) (reg-lt m b rn)).4
act-bounded (Asrv rd rn rm) m b =
    result m b rd _ (results_are_words _ (reg m.regs rm % 64) (reg-lt m b rn)).5
act-bounded (Movz rd hw imm) m b = result m b rd _ (omega arith)
act-bounded (Movk rd hw imm) m b = result m b rd _ (omega arith)
act-bounded (Csinc rd rn rm c) m b =
    result m b rd _ (cond_both (holds c m.regs) (reg m.regs rn) (wrap (reg m.regs rm + 1)) (λ v. v < 2 ^ 64) (λ _. reg-lt m b rn) (λ _. omega arith))
act-bounded (Ldr rt rn imm) m b = loaded m b rt _
act-bounded (Str rt rn imm) m b = stored m b rt _
act-bounded (LdrReg rt rn rm) m b = loaded m b rt _
act-bounded (StrReg rt rn rm) m b = stored m b rt _
act-bounded (B z) m b = moves m b _ (branch_target-lt m.regs.pc z)
act-bounded (Bl z) m b = linked m b _ (branch_target-lt m.regs.pc z)
act-bounded (BCond c z) m b = moves_if (holds c m.regs) m b _ (branch_target-lt m.regs.pc z)
act-bounded (Cbz rt z) m b = moves_if (eqb (reg m.regs rt) 0) m b _ (branch_target-lt m.regs.pc z)
act-bounded (Cbnz rt z) m b = moves_if (not (eqb (reg m.regs rt) 0)) m b _ (branch_target-lt m.regs.pc z)
act-bounded (Blr rn) m b = linked m b _ (reg-lt m b rn)
act-bounded (Ret rn) m b = moves m b _ (reg-lt m b rn)
act-bounded (Svc n) m b = either (leb n 9) _ _ (rests m b) b
act-bounded (Brk n) m b = either (leb 1 n && leb n 4) _ _ b b
act-bounded Nop m b = rests m b

acts-bounded : (i : Option Inst) (m : Machine) → IsBounded m → IsBounded (acts i m).machine
acts-bounded None m b = b
acts-bounded (Some i) m b = act-bounded i m b

decodes-bounded : (word : Option ℕ) (m : Machine) → IsBounded m → IsBounded (decodes word m).machine
decodes-bounded None m b = b
decodes-bounded (Some word) m b = acts-bounded (inst_of word) m b

pub step_keeps_bounds : StepKeepsBounds
unfolding step
step_keeps_bounds code m b = decodes-bounded (word_at code m.regs.pc) m b
