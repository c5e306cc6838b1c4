-- Room for records: a call that takes a record is a monitor call, and behind it stands none of the same number.
use Rattle.std.proofs.Common.{◌≡◌, ◌+◌, ◌-◌, ◌*◌, ◌≤◌, ◌<◌, ◌⊎◌, ◌&&◌, ℕ, ℤ, Bool, true, false, not, cond, eqb, leb, List, [], ◌∷◌, Option, Some, None, refl, sym, ap, subst, ◌∙◌, inl, inr, arith}
use Rattle.std.proofs.Common.{eqb-true, option_and_then}
use Rattle.std.specs.{Prelude.IsSome, Prelude.vec_len, Prelude.vec_capacity, List.AllByRecursion}
use Rattle.std.proofs.lemmas.Bool.{cases_Bool}
use Rattle.oat_journal.specs.{Event, Inst, inst_of, BCond, Cbz, Cbnz, Ldr, Str, LdrReg, StrReg, Svc, Brk, Regs, Machine, Effect, instruction_at, word_at, act, acts, decodes, step, holds, reg}
use Rattle.oat_journal.specs.{reg_or_sp, wrap, next_pc, can_access, Write, IsInLimits, RisesFrom, Engine, call_numbered, MonitorCall, Run.Running, Run.found, Run.told, Run.with_input, Run.turn}
use Rattle.oat_journal.specs.{Progress.call_told}
use Rattle.oat_journal.proofs.RunLaws.{turns_make_steps}
use Rattle.oat_device.specs.{Records.bits_taken, Records.targets_taken, declared.bare.BareRun.BareRun, declared.course.Course.Course, Standing.HasRoom, Standing.IsReady, Standing.IsSpaced}
use Rattle.oat_device.specs.{Standing.LeavesRoom, Standing.engine_opening, Standing.shelf_bits, Standing.shelf_targets, Standing.spare_bits, Standing.spare_targets, Standing.window_room}
use Rattle.oat_a64.specs.declared.event.Event.TheVariants as event

-- an instruction that takes a record of one kind, and leads on
abbrev pub Takes : List ℕ → ℕ → ℕ → ℕ → ℕ → Type 0
Takes code number pc next taken = (taken ≡ 0) ⊎ ((taken ≡ 1) × (instruction_at code pc ≡ Some (Svc number)) × (next ≡ next_pc pc))

pub room-for : (code : List ℕ) (number left spare pc next taken : ℕ) → HasRoom code number left spare pc → 1 ≤ left → Takes code number pc next taken → taken ≤ spare
room-for code number left spare pc next taken room some (inl none) = omega (arith, none)
room-for code number left spare pc next taken (inl half) some (inr t) = let one = t.0 in omega (arith, one, half, some)
room-for code number left spare pc next taken (inr later) some (inr t) = absurd (later.1 t.1)

pub room-behind : (code : List ℕ) (number left spare pc next rest taken : ℕ) → IsSpaced code number → HasRoom code number left spare pc → Takes code number pc next taken
    → spare ≤ rest + taken → HasRoom code number (left - 1) rest next
room-behind code number left spare pc next rest taken spaced (inl half) (inl none) few = inl (omega (arith, half, none, few))
room-behind code number left spare pc next rest taken spaced (inr later) (inl none) few = let half = later.0 in inl (omega (arith, half, none, few))
room-behind code number left spare pc next rest taken spaced (inl half) (inr t) few =
    let one = t.0 in
    inr (omega (arith, half, one, few), λ h. spaced pc t.1 (subst (λ (q : ℕ). instruction_at code q ≡ Some (Svc number)) t.2 h))
room-behind code number left spare pc next rest taken spaced (inr later) (inr t) few = absurd (later.1 t.1)

-- all of a window's room is free, or what was, less what was taken
pub room-after : (code : List ℕ) (number left spare pc next rest taken steps whole : ℕ) → IsSpaced code number → HasRoom code number left spare pc → Takes code number pc next taken
    → left ≤ steps → steps ≤ 2 * whole → (spare ≤ rest + taken) ⊎ (whole ≤ rest) → HasRoom code number (left - 1) rest next
room-after code number left spare pc next rest taken steps whole spaced room takes within half (inl few) = room-behind code number left spare pc next rest taken spaced room takes few
room-after code number left spare pc next rest taken steps whole spaced room takes within half (inr all) = inl (omega (arith, within, half, all))

-- ---- an instruction that tells a call

abbrev IsCall : Event → Inst → Machine → Machine → Type 0
IsCall (event.Svc number) i m left = (i ≡ Svc number) × (left.regs.pc ≡ next_pc m.regs.pc)
IsCall _ i m left = Unit {0}

call-if : (t : Bool) (a b : Effect) (i : Inst) (m : Machine) → IsCall a.event i m a.machine → IsCall b.event i m b.machine → IsCall (cond t a b).event i m (cond t a b).machine
call-if true a b i m p q = p
call-if false a b i m p q = q

calls-are : (i : Inst) (m : Machine) → IsCall (act i m).event i m (act i m).machine
calls-are (BCond c z) m = call-if (holds c m.regs) _ _ (BCond c z) m tt tt
calls-are (Cbz rt z) m = call-if (eqb (reg m.regs rt) 0) _ _ (Cbz rt z) m tt tt
calls-are (Cbnz rt z) m = call-if (not (eqb (reg m.regs rt) 0)) _ _ (Cbnz rt z) m tt tt
calls-are (Ldr rt rn imm) m = call-if (can_access (wrap (reg_or_sp m.regs rn + 8 * imm))) _ _ (Ldr rt rn imm) m tt tt
calls-are (Str rt rn imm) m = call-if (can_access (wrap (reg_or_sp m.regs rn + 8 * imm))) _ _ (Str rt rn imm) m tt tt
calls-are (LdrReg rt rn rm) m = call-if (can_access (wrap (reg_or_sp m.regs rn + 8 * reg m.regs rm))) _ _ (LdrReg rt rn rm) m tt tt
calls-are (StrReg rt rn rm) m = call-if (can_access (wrap (reg_or_sp m.regs rn + 8 * reg m.regs rm))) _ _ (StrReg rt rn rm) m tt tt
calls-are (Svc number) m = call-if (leb number 9) _ _ (Svc number) m (refl, refl) tt
calls-are (Brk number) m = call-if (leb 1 number && leb number 4) _ _ (Brk number) m tt tt
calls-are _ m = tt

abbrev Called : Option Inst → ℕ → Machine → Machine → Type 0
Called o number m left = (o ≡ Some (Svc number)) × (left.regs.pc ≡ next_pc m.regs.pc)

acts-called : (o : Option Inst) (m : Machine) (number : ℕ) → (acts o m).event ≡ event.Svc number → Called o number m (acts o m).machine
acts-called None m number h = absurd (cc)
acts-called (Some i) m number h =
    let is : IsCall (event.Svc number) i m (act i m).machine = subst (λ (e : Event). IsCall e i m (act i m).machine) h (calls-are i m) in
    (ap (λ (x : Inst). Some x) is.0, is.1)

decodes-called : (word : Option ℕ) (m : Machine) (number : ℕ) → (decodes word m).event ≡ event.Svc number → Called (option_and_then inst_of word) number m (decodes word m).machine
decodes-called None m number h = absurd (cc)
decodes-called (Some word) m number h = acts-called (inst_of word) m number h

step-called : (code : List ℕ) (m : Machine) (number : ℕ) → (step code m).event ≡ event.Svc number → Called (instruction_at code m.regs.pc) number m (step code m).machine
unfolding step
step-called code m number h = decodes-called (word_at code m.regs.pc) m number h

-- ---- which calls take records

abbrev TakesNone : (MonitorCall → ℕ) → Option MonitorCall → Type 0
TakesNone taken None = Unit {0}
TakesNone taken (Some call) = taken call ≡ 0

abbrev TakesOne : (MonitorCall → ℕ) → Option MonitorCall → Type 0
TakesOne taken None = ⊥
TakesOne taken (Some call) = taken call ≡ 1

none-if : (taken : MonitorCall → ℕ) (t : Bool) (a b : Option MonitorCall) → TakesNone taken a → TakesNone taken b → TakesNone taken (cond t a b)
none-if taken true a b p q = p
none-if taken false a b p q = q

none-unless : (taken : MonitorCall → ℕ) (t : Bool) (a b : Option MonitorCall) → t ≡ false → TakesNone taken b → TakesNone taken (cond t a b)
none-unless taken true a b off q = absurd (cc)
none-unless taken false a b off q = q

no-bit : (number : ℕ) (r : Regs) → eqb number 3 ≡ false → TakesNone bits_taken (call_numbered number r)
no-bit number r other =
    none-if bits_taken (eqb number 1) _ _ refl (none-if bits_taken (eqb number 2) _ _ refl (none-unless bits_taken (eqb number 3) _ _ other
    (none-if bits_taken (eqb number 4) _ _ refl (none-if bits_taken (eqb number 5) _ _ refl (none-if bits_taken (eqb number 6) _ _ refl (none-if bits_taken (eqb number 7) _ _ refl tt))))))

no-target : (number : ℕ) (r : Regs) → eqb number 4 ≡ false → TakesNone targets_taken (call_numbered number r)
no-target number r other =
    none-if targets_taken (eqb number 1) _ _ refl (none-if targets_taken (eqb number 2) _ _ refl (none-if targets_taken (eqb number 3) _ _ refl
    (none-unless targets_taken (eqb number 4) _ _ other (none-if targets_taken (eqb number 5) _ _ refl (none-if targets_taken (eqb number 6) _ _ refl (none-if targets_taken (eqb number 7) _ _ refl tt))))))

-- a record is taken by the call of its number alone
abbrev TakenBy : (MonitorCall → ℕ) → ℕ → Event → MonitorCall → Type 0
TakenBy taken number e call = (taken call ≡ 0) ⊎ ((taken call ≡ 1) × (e ≡ event.Svc number))

bit-by : (e : Event) (r : Regs) (call : MonitorCall) → call_told e r ≡ Some call → TakenBy bits_taken 3 e call
bit-by event.Next r call h = absurd (cc)
bit-by (event.Brk number) r call h = absurd (cc)
bit-by (event.Fault kind) r call h = absurd (cc)
bit-by (event.Svc number) r call h =
    elim (cases_Bool (eqb number 3)) [
      | inl is ↦
          let n = eqb-true number 3 is in
          let told3 : call_numbered 3 r ≡ Some call = subst (λ (k : ℕ). call_numbered k r ≡ Some call) n h in
          inr (subst (TakesOne bits_taken) told3 refl, ap (λ (k : ℕ). event.Svc k) n)
      | inr other ↦ inl (subst (TakesNone bits_taken) h (no-bit number r other))
    ]

target-by : (e : Event) (r : Regs) (call : MonitorCall) → call_told e r ≡ Some call → TakenBy targets_taken 4 e call
target-by event.Next r call h = absurd (cc)
target-by (event.Brk number) r call h = absurd (cc)
target-by (event.Fault kind) r call h = absurd (cc)
target-by (event.Svc number) r call h =
    elim (cases_Bool (eqb number 4)) [
      | inl is ↦
          let n = eqb-true number 4 is in
          let told4 : call_numbered 4 r ≡ Some call = subst (λ (k : ℕ). call_numbered k r ≡ Some call) n h in
          inr (subst (TakesOne targets_taken) told4 refl, ap (λ (k : ℕ). event.Svc k) n)
      | inr other ↦ inl (subst (TakesNone targets_taken) h (no-target number r other))
    ]

takes-by : (code : List ℕ) (m : Machine) (number next : ℕ) (taken : MonitorCall → ℕ) (call : MonitorCall) → TakenBy taken number (step code m).event call → next ≡ (step code m).machine.regs.pc
    → Takes code number m.regs.pc next (taken call)
takes-by code m number next taken call (inl none) at = inl none
takes-by code m number next taken call (inr one) at = let c = step-called code m number one.1 in inr (one.0, c.0, at ∙ c.1)

pub takes-bits : (code : List ℕ) (m : Machine) (r : Regs) (next : ℕ) (call : MonitorCall) → call_told (step code m).event r ≡ Some call → next ≡ (step code m).machine.regs.pc
    → Takes code 3 m.regs.pc next (bits_taken call)
takes-bits code m r next call h at = takes-by code m 3 next bits_taken call (bit-by (step code m).event r call h) at

pub takes-targets : (code : List ℕ) (m : Machine) (r : Regs) (next : ℕ) (call : MonitorCall) → call_told (step code m).event r ≡ Some call → next ≡ (step code m).machine.regs.pc
    → Takes code 4 m.regs.pc next (targets_taken call)
takes-targets code m r next call h at = takes-by code m 4 next targets_taken call (target-by (step code m).event r call h) at

-- ---- where a turn leads

pc-if : (t : Bool) (a b : Running) (pc : ℕ) → a.machine.regs.pc ≡ pc → b.machine.regs.pc ≡ pc → (cond t a b).machine.regs.pc ≡ pc
pc-if true a b pc p q = p
pc-if false a b pc p q = q

takes-pc : (s : Running) (m : Machine) (inputs : List ℤ) → (with_input s m inputs).machine.regs.pc ≡ m.regs.pc
takes-pc s m [] = refl
takes-pc s m (value ∷ others) = refl

told-pc : (s : Running) (m : Machine) (e : Event) → (told s m e).machine.regs.pc ≡ m.regs.pc
told-pc s m event.Next = refl
told-pc s m (event.Svc number) =
    pc-if (eqb number 0) _ _ m.regs.pc refl (pc-if (eqb number 8) _ _ m.regs.pc (takes-pc s m s.inputs) (pc-if (eqb number 9) _ _ m.regs.pc refl refl))
told-pc s m (event.Brk number) = refl
told-pc s m (event.Fault kind) = refl

pub turn-pc : (code : List ℕ) (writes : List Write) (s : Running) → s.end ≡ None → (turn code writes s).machine.regs.pc ≡ (step code (found writes s)).machine.regs.pc
turn-pc code writes s going =
    ap (λ (x : Running). x.machine.regs.pc) (turns_make_steps code writes s going) ∙ told-pc s (step code (found writes s)).machine (step code (found writes s)).event

pub turn-takes : (code : List ℕ) (writes : List Write) (s next : Running) (e : Event) (call : MonitorCall) → s.end ≡ None → e ≡ (step code (found writes s)).event
    → Some call ≡ call_told e s.machine.regs → next ≡ turn code writes s
    → Takes code 3 s.machine.regs.pc next.machine.regs.pc (bits_taken call) × Takes code 4 s.machine.regs.pc next.machine.regs.pc (targets_taken call)
turn-takes code writes s next e call going told_is call_is next_is =
    let m = found writes s in
    let h : call_told (step code m).event s.machine.regs ≡ Some call = ap (λ (x : Event). call_told x s.machine.regs) (sym told_is) ∙ sym call_is in
    let at : next.machine.regs.pc ≡ (step code m).machine.regs.pc = ap (λ (x : Running). x.machine.regs.pc) next_is ∙ turn-pc code writes s going in
    (takes-bits code m s.machine.regs next.machine.regs.pc call h at, takes-targets code m s.machine.regs next.machine.regs.pc call h at)

-- ---- what a turn keeps

-- what an instruction of the bare run leaves
pub record Kept (old new : BareRun) : Type 0 where
  pub code : new.code.now ≡ old.code.now
  pub made : new.made ≡ old.made + 1
  pub outputs : vec_len new.outputs ≤ vec_len old.outputs + 1
  pub capacity : vec_capacity new.outputs ≡ vec_capacity old.outputs
  pub fit : AllByRecursion IsInLimits new.writes.now
  pub rise : RisesFrom (old.made + 1) new.writes.now

some-opening : (a b : Option Engine) → engine_opening a ≡ engine_opening b → IsSome b → IsSome a
some-opening (Some e) b same some = refl
some-opening None None same some = absurd (cc)
some-opening None (Some e) same some = absurd (cc)

pub ready-next : (now next : Course) (bare : BareRun) (bits targets : ℕ) → IsReady now → now.bare.made < now.steps → Kept now.bare bare → next.bare ≡ record bare { end = next.bare.end }
    → next.steps ≡ now.steps → engine_opening next.engine ≡ engine_opening now.engine
    → Takes now.bare.code.now 3 now.bare.cpu.pc bare.cpu.pc bits → Takes now.bare.code.now 4 now.bare.cpu.pc bare.cpu.pc targets
    → LeavesRoom bits targets now next → IsReady next
ready-next now next bare bits targets ready left kept same steps opening takes_bits takes_targets leaves =
    let code : next.bare.code.now ≡ now.bare.code.now = ap (λ (b : BareRun). b.code.now) same ∙ kept.code in
    let made : next.bare.made ≡ now.bare.made + 1 = ap (λ (b : BareRun). b.made) same ∙ kept.made in
    let pc : next.bare.cpu.pc ≡ bare.cpu.pc = ap (λ (b : BareRun). b.cpu.pc) same in
    let writes : next.bare.writes.now ≡ bare.writes.now = ap (λ (b : BareRun). b.writes.now) same in
    let len : vec_len next.bare.outputs ≡ vec_len bare.outputs = ap (λ (b : BareRun). vec_len b.outputs) same in
    let capacity : vec_capacity next.bare.outputs ≡ vec_capacity bare.outputs = ap (λ (b : BareRun). vec_capacity b.outputs) same in
    let outputs = kept.outputs in
    let kept_capacity = kept.capacity in
    let room = ready.outputs in
    let few = ready.few in
    let window : now.steps ≤ 2 * window_room next.engine = subst (λ (n : ℕ). now.steps ≤ 2 * n) (sym leaves.window) ready.window in
    let rest : next.steps - next.bare.made ≡ now.steps - now.bare.made - 1 = omega (arith, made, steps, left) in
    let move : (number spare : ℕ) → HasRoom now.bare.code.now number (now.steps - now.bare.made - 1) spare bare.cpu.pc → HasRoom next.bare.code.now number (next.steps - next.bare.made) spare next.bare.cpu.pc =
    λ number spare has.
    subst (λ (p : ℕ). HasRoom next.bare.code.now number (next.steps - next.bare.made) spare p) (sym pc)
    (subst (λ (n : ℕ). HasRoom next.bare.code.now number n spare bare.cpu.pc) (sym rest)
    (subst (λ (xs : List ℕ). HasRoom xs number (now.steps - now.bare.made - 1) spare bare.cpu.pc) (sym code) has))
    in record {
      measured = some-opening next.engine now.engine opening ready.measured;
      bits_spaced = subst (λ (xs : List ℕ). IsSpaced xs 3) (sym code) ready.bits_spaced;
      targets_spaced = subst (λ (xs : List ℕ). IsSpaced xs 4) (sym code) ready.targets_spaced;
      few = omega (arith, steps, few);
      writes_fit = subst (AllByRecursion IsInLimits) (sym writes) kept.fit;
      writes_rise = subst (λ (n : ℕ). RisesFrom n next.bare.writes.now) (sym made) (subst (RisesFrom (now.bare.made + 1)) (sym writes) kept.rise);
      outputs = omega (arith, steps, made, len, capacity, outputs, kept_capacity, room);
      bits = move 3 (spare_bits next.engine)
          (room-after now.bare.code.now 3 (now.steps - now.bare.made) (spare_bits now.engine) now.bare.cpu.pc bare.cpu.pc (spare_bits next.engine) bits now.steps (window_room next.engine) ready.bits_spaced ready.bits takes_bits
          (omega arith) window leaves.bits);
      targets = move 4 (spare_targets next.engine)
          (room-after now.bare.code.now 4 (now.steps - now.bare.made) (spare_targets now.engine) now.bare.cpu.pc bare.cpu.pc (spare_targets next.engine) targets now.steps (window_room next.engine) ready.targets_spaced ready.targets takes_targets
          (omega arith) window leaves.targets);
      window = omega (arith, steps, window);
      shelf = leaves.shelf;
      bits_to_shelve = move 3 (shelf_bits next)
          (room-behind now.bare.code.now 3 (now.steps - now.bare.made) (shelf_bits now) now.bare.cpu.pc bare.cpu.pc (shelf_bits next) bits ready.bits_spaced ready.bits_to_shelve takes_bits leaves.bits_to_shelve);
      targets_to_shelve = move 4 (shelf_targets next)
          (room-behind now.bare.code.now 4 (now.steps - now.bare.made) (shelf_targets now) now.bare.cpu.pc bare.cpu.pc (shelf_targets next) targets ready.targets_spaced ready.targets_to_shelve takes_targets leaves.targets_to_shelve);
    }
