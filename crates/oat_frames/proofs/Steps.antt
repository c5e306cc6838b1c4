-- One instruction of each form that compiled code has, from where it stands to the explicit next moment.
use Rattle.std.proofs.Common.{◌≡◌, ◌+◌, ◌*◌, ◌%◌, ◌/◌, ◌^◌, ◌<◌, ◌≤◌, ◌-◌, ℕ, Bool, true, cond, [], Option, None, refl, ap, subst, ◌∙◌, arith}
use Rattle.std.specs.List.{cons_option}
use Rattle.std.proofs.lemmas.Bool.{lt-ltb}
use Rattle.oat_asm.specs.{Access, Inst, AddImm, SubImm, Movz, Movk, Ldr, Str, Regs, Machine, act, goes_on, fault, loads, stores, subtracts, reg, reg_or_sp, set, with_reg, with_flags, wrap, difference}
use Rattle.oat_asm.specs.{shifted_left, with_bits, Image, can_access, word_in, Stands}
use Rattle.oat_follow.specs.{Running, makes, Events.MachineEvent, Events.told_by, Reaching.RunsTo, Reaching.inst_makes}
use Rattle.oat_frames.specs.{Frames.IsLow, Moments.next_moment}
use Rattle.oat_frames.proofs.{Reaching.goes-as, Reaching.thence, Registers.wrap-is, Registers.difference-is, Registers.set-31, Registers.set-same, Registers.set-twice, Registers.with_x}
use Rattle.oat_frames.proofs.{Registers.with_sp, Registers.with_slot, Registers.compared, Registers.next-is}

-- an instruction that shows nothing, whatever it finds and leaves
abbrev pub IsQuiet : Image → Inst → Type 0
IsQuiet image i = (r : Regs) (next : ℕ) → told_by image.map i r next ≡ None

module _ (image : Image) (low : IsLow image) where
  pub below : (m : Running) (i : Inst) → Stands image.code m.machine.regs.pc i → m.machine.regs.pc < 2 ^ 32
  below m i at = low m.machine.regs.pc i at

  pub quietly : (m k : Running) (i : Inst) → m.end ≡ None → Stands image.code m.machine.regs.pc i → inst_makes m i ≡ k → k.end ≡ None
      → told_by image.map i m.machine.regs k.machine.regs.pc ≡ None → RunsTo image 1 m k []
  quietly m k i going at is on quiet =
      let r = goes-as image m k i going at is on in
      record { run = r.run; told = r.told ∙ ap (λ (e : Option MachineEvent). cons_option e []) quiet }

  -- any instruction that only gives a register a number
  pub sets : (m : Running) (i : Inst) (rd v : ℕ) → m.end ≡ None → Stands image.code m.machine.regs.pc i → IsQuiet image i
      → act i m.machine ≡ goes_on m.machine (with_reg m.machine.regs rd v) → RunsTo image 1 m (next_moment m (with_x m.machine rd v)) []
  sets m i rd v going at quiet does =
      let l = below m i at in
      quietly m (next_moment m (with_x m.machine rd v)) i going at
      (ap (makes m) does ∙ next-is m (with_x m.machine rd v) (omega arith)) going (quiet m.machine.regs _)

  -- a comparison: SUBS of either form with register 31
  pub compares : (m : Running) (i : Inst) (a b : ℕ) → m.end ≡ None → Stands image.code m.machine.regs.pc i → IsQuiet image i
      → act i m.machine ≡ subtracts m.machine 31 a b → RunsTo image 1 m (next_moment m (compared m.machine a b)) []
  compares m i a b going at quiet does =
      let l = below m i at in
      quietly m (next_moment m (compared m.machine a b)) i going at
      (ap (makes m) does
      ∙ ap (λ (x : ℕ → ℕ). makes m (goes_on m.machine (record (with_flags m.machine.regs a b) { x = x }))) (set-31 m.machine.regs.x (difference a b))
      ∙ next-is m (compared m.machine a b) (omega arith)) going (quiet m.machine.regs _)

  pub sub-sp : (m : Running) (imm : ℕ) → m.end ≡ None → Stands image.code m.machine.regs.pc (SubImm 31 31 imm) → imm ≤ m.machine.regs.sp → m.machine.regs.sp < 2 ^ 64
      → RunsTo image 1 m (next_moment m (with_sp m.machine (m.machine.regs.sp - imm))) []
  sub-sp m imm going at le small =
      let l = below m (SubImm 31 31 imm) at in
      let d : ℕ = difference m.machine.regs.sp imm in
      quietly m (next_moment m (with_sp m.machine (m.machine.regs.sp - imm))) (SubImm 31 31 imm) going at
      (ap (λ (x : ℕ → ℕ). makes m (goes_on m.machine (record m.machine.regs { x = x; sp = d }))) (set-31 m.machine.regs.x d)
      ∙ ap (λ (v : ℕ). makes m (goes_on m.machine (record m.machine.regs { sp = v }))) (difference-is m.machine.regs.sp imm le small)
      ∙ next-is m (with_sp m.machine (m.machine.regs.sp - imm)) (omega arith)) going refl

  pub add-sp : (m : Running) (imm : ℕ) → m.end ≡ None → Stands image.code m.machine.regs.pc (AddImm 31 31 imm) → m.machine.regs.sp + imm < 2 ^ 64
      → RunsTo image 1 m (next_moment m (with_sp m.machine (m.machine.regs.sp + imm))) []
  add-sp m imm going at small =
      let l = below m (AddImm 31 31 imm) at in
      let d : ℕ = wrap (m.machine.regs.sp + imm) in
      quietly m (next_moment m (with_sp m.machine (m.machine.regs.sp + imm))) (AddImm 31 31 imm) going at
      (ap (λ (x : ℕ → ℕ). makes m (goes_on m.machine (record m.machine.regs { x = x; sp = d }))) (set-31 m.machine.regs.x d)
      ∙ ap (λ (v : ℕ). makes m (goes_on m.machine (record m.machine.regs { sp = v }))) (wrap-is (m.machine.regs.sp + imm) small)
      ∙ next-is m (with_sp m.machine (m.machine.regs.sp + imm)) (omega arith)) going refl

  -- a load and a store by any base, at an address that doesn't wrap
  pub ldr-at : (m : Running) (rt rn k a : ℕ) → m.end ≡ None → Stands image.code m.machine.regs.pc (Ldr rt rn k) → reg_or_sp m.machine.regs rn + 8 * k ≡ a → a < 2 ^ 64 → can_access a ≡ true
      → RunsTo image 1 m (next_moment m (with_x m.machine rt (word_in m.machine.memory a))) []
  ldr-at m rt rn k a going at is small can =
      let l = below m (Ldr rt rn k) at in
      let v : ℕ = word_in m.machine.memory a in
      let e : wrap (reg_or_sp m.machine.regs rn + 8 * k) ≡ a = ap wrap is ∙ wrap-is a small in
      quietly m (next_moment m (with_x m.machine rt v)) (Ldr rt rn k) going at
      (ap (λ (b : ℕ). makes m (loads m.machine rt b)) e
      ∙ ap (λ (t : Bool). makes m (cond t (goes_on m.machine (with_reg m.machine.regs rt v)) (fault m.machine (Access a)))) can
      ∙ next-is m (with_x m.machine rt v) (omega arith)) going refl

  pub str-at : (m : Running) (rt rn k a : ℕ) → m.end ≡ None → Stands image.code m.machine.regs.pc (Str rt rn k) → reg_or_sp m.machine.regs rn + 8 * k ≡ a → a < 2 ^ 64 → can_access a ≡ true
      → RunsTo image 1 m (next_moment m (with_slot m.machine a (reg m.machine.regs rt))) []
  str-at m rt rn k a going at is small can =
      let l = below m (Str rt rn k) at in
      let next : Machine = with_slot m.machine a (reg m.machine.regs rt) in
      let e : wrap (reg_or_sp m.machine.regs rn + 8 * k) ≡ a = ap wrap is ∙ wrap-is a small in
      quietly m (next_moment m next) (Str rt rn k) going at
      (ap (λ (b : ℕ). makes m (stores m.machine rt b)) e
      ∙ ap (λ (t : Bool). makes m (cond t (goes_on next next.regs) (fault m.machine (Access a)))) can
      ∙ next-is m next (omega arith)) going refl

  -- of a slot
  pub ldr : (m : Running) (rt k : ℕ) → m.end ≡ None → Stands image.code m.machine.regs.pc (Ldr rt 31 k) → m.machine.regs.sp + 8 * k < 2 ^ 64 → can_access (m.machine.regs.sp + 8 * k) ≡ true
      → RunsTo image 1 m (next_moment m (with_x m.machine rt (word_in m.machine.memory (m.machine.regs.sp + 8 * k)))) []
  ldr m rt k going at small can = ldr-at m rt 31 k (m.machine.regs.sp + 8 * k) going at refl small can

  pub str : (m : Running) (rt k : ℕ) → m.end ≡ None → Stands image.code m.machine.regs.pc (Str rt 31 k) → m.machine.regs.sp + 8 * k < 2 ^ 64 → can_access (m.machine.regs.sp + 8 * k) ≡ true
      → RunsTo image 1 m (next_moment m (with_slot m.machine (m.machine.regs.sp + 8 * k) (reg m.machine.regs rt))) []
  str m rt k going at small can = str-at m rt 31 k (m.machine.regs.sp + 8 * k) going at refl small can

  -- two moves put a number of 32 bits into a register
  pub moves-number : (m : Running) (rd value : ℕ) → rd < 31 → m.end ≡ None → value < 2 ^ 32 → Stands image.code m.machine.regs.pc (Movz rd 0 (value % 2 ^ 16)) → Stands image.code (m.machine.regs.pc + 4) (Movk rd 1 (value / 2 ^ 16))
      → RunsTo image 2 m (next_moment (next_moment m m.machine) (with_x (next_moment m m.machine).machine rd value)) []
  moves-number m rd value fits going small one two =
      let half : ℕ = value % 2 ^ 16 in
      let m1 : Running = next_moment m (with_x m.machine rd half) in
      let low_is : shifted_left half (16 * 0) ≡ half = omega arith in
      let first : RunsTo image 1 m m1 [] = sets m (Movz rd 0 half) rd half going one (λ r next. refl) (ap (λ (v : ℕ). goes_on m.machine (with_reg m.machine.regs rd v)) low_is) in
      let was : reg m1.machine.regs rd ≡ half = ap (λ (t : Bool). cond t (set m.machine.regs.x rd half rd) 0) (lt-ltb rd 31 fits) ∙ set-same m.machine.regs.x rd half fits in
      let both : with_bits (reg m1.machine.regs rd) (16 * 1) (value / 2 ^ 16) ≡ value = ap (λ (v : ℕ). with_bits v (16 * 1) (value / 2 ^ 16)) was ∙ joined value small in
      let second : RunsTo image 1 m1 (next_moment m1 (with_x m1.machine rd value)) [] =
      sets m1 (Movk rd 1 (value / 2 ^ 16)) rd value going two (λ r next. refl) (ap (λ (v : ℕ). goes_on m1.machine (with_reg m1.machine.regs rd v)) both) in
      let r = thence image 1 1 m m1 (next_moment m1 (with_x m1.machine rd value)) [] [] first second in
      subst (λ (x : ℕ → ℕ). RunsTo image 2 m (next_moment m1 (record m1.machine { regs = record m1.machine.regs { x = x } })) []) (set-twice m.machine.regs.x rd half value) r where
        joined : (v : ℕ) → v < 2 ^ 32 → with_bits (v % 2 ^ 16) (16 * 1) (v / 2 ^ 16) ≡ v
        joined v h = omega arith
