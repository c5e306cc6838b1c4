-- What one turn of a run does, by the instruction that is made.
use Rattle.std.proofs.Common.{◌≡◌, ◌+◌, ℕ, ℤ, Bool, true, false, not, cond, ◌&&◌, ◌*◌, eqb, leb, List, [], ◌∷◌, Option, Some, None, refl, sym, ap, subst, ◌∙◌, eqb-true}
use Rattle.std.specs.Option.{option_and_then}
use Rattle.oat_case.specs.declared.case.Write.{Write}
use Rattle.oat_measure.specs.{Event, Inst, BCond, Cbz, Cbnz, Ldr, Str, LdrReg, StrReg, Svc, Brk, inst_of, Regs, Machine, Effect, instruction_at, word_at, decodes, acts, act, step, with_reg, unsigned}
use Rattle.oat_measure.specs.{holds, reg, reg_or_sp, wrap, can_access}
use Rattle.oat_journal.specs.{declared.end.DeviceEnd.DeviceEnd, Run.Running, Run.Entry, Run.found, Run.makes, Run.told, Run.called, Run.with_input, Run.turn, Run.unless_ended, Run.entry}
use Rattle.oat_journal.specs.{Run.made_entry, Journal.takes_input}
use Rattle.oat_a64.specs.declared.event.Event.TheVariants as event

-- ---- fetch

decodes-is : (word : Option ℕ) (m : Machine) (i : Inst) → option_and_then inst_of word ≡ Some i → decodes word m ≡ act i m
decodes-is None m i h = absurd (cc)
decodes-is (Some word) m i h = ap (λ (o : Option Inst). acts o m) h

pub step-is : (code : List ℕ) (m : Machine) (i : Inst) → instruction_at code m.regs.pc ≡ Some i → step code m ≡ act i m
unfolding step
step-is code m i h = decodes-is (word_at code m.regs.pc) m i h

decodes-none : (word : Option ℕ) (m : Machine) → option_and_then inst_of word ≡ None → (decodes word m).machine ≡ m
decodes-none None m h = refl
decodes-none (Some word) m h = ap (λ (o : Option Inst). (acts o m).machine) h

-- ---- a turn

pub turn-is : (code : List ℕ) (writes : List Write) (s : Running) (i : Inst) → s.end ≡ None → instruction_at code s.machine.regs.pc ≡ Some i → turn code writes s ≡ makes s (act i (found writes s))
unfolding turn
turn-is code writes s i going at =
    ap (λ (e : Option DeviceEnd). unless_ended e s (makes s (step code (found writes s)))) going ∙ ap (makes s) (step-is code (found writes s) i at)

unless_ended-going : (end : Option DeviceEnd) (s next : Running) → s.end ≡ end → (unless_ended end s next).end ≡ None → end ≡ None
unless_ended-going None s next was h = refl
unless_ended-going (Some why) s next was h = sym was ∙ h

-- a run that goes on was going on
pub was_going : (code : List ℕ) (writes : List Write) (s : Running) → (turn code writes s).end ≡ None → s.end ≡ None
unfolding turn
was_going code writes s h = unless_ended-going s.end s (makes s (step code (found writes s))) refl h

-- ---- the entry of a turn

pub record EntryIs (code : List ℕ) (writes : List Write) (s : Running) (e : Entry) : Type 0 where
  pub going : s.end ≡ None
  pub goes_on : (turn code writes s).end ≡ None
  pub fetched : instruction_at code s.machine.regs.pc ≡ Some e.inst
  pub found : e.found ≡ found writes s
  pub left : e.left ≡ (turn code writes s).machine.regs

some-inj : {A : Type 0} (a b : A) → Some a ≡ Some b → a ≡ b
some-inj a b h = cc

pub record Entered (o : Option Inst) (m : Machine) (end : Option DeviceEnd) (next : Running) (e : Entry) : Type 0 where
  pub fetched : o ≡ Some e.inst
  pub found : e.found ≡ m
  pub going : end ≡ None
  pub left : e.left ≡ next.machine.regs

entered : (o : Option Inst) (m : Machine) (end : Option DeviceEnd) (next : Running) (e : Entry) → made_entry o m end next ≡ Some e → Entered o m end next e
entered None m end next e h = absurd (cc)
entered (Some i) m (Some why) next e h = absurd (cc)
entered (Some i) m None next e h =
    let q : record { inst = i; found = m; left = next.machine.regs } ≡ e = some-inj _ e h in
    record { fetched = ap (λ (x : Entry). Some x.inst) q; found = sym (ap (λ (x : Entry). x.found) q); going = refl; left = sym (ap (λ (x : Entry). x.left) q) }

pub entry-is : (code : List ℕ) (writes : List Write) (s : Running) (e : Entry) → entry code writes s ≡ Some e → EntryIs code writes s e
entry-is code writes s e h =
    let next = turn code writes s in
    let w = entered (instruction_at code s.machine.regs.pc) (found writes s) next.end next e h in
    record { going = was_going code writes s w.going; goes_on = w.going; fetched = w.fetched; found = w.found; left = w.left }

-- ---- what an instruction leaves

abbrev asks : Event → Bool
asks (event.Svc number) = eqb number 8
asks _ = false

cond-asks : (t : Bool) (a b : Effect) → asks a.event ≡ false → asks b.event ≡ false → asks (cond t a b).event ≡ false
cond-asks true a b p q = p
cond-asks false a b p q = q

-- only SVC 8 asks for an input
asks-only : (i : Inst) (m : Machine) → takes_input i ≡ false → asks (act i m).event ≡ false
asks-only (BCond c z) m h = cond-asks (holds c m.regs) _ _ refl refl
asks-only (Cbz rt z) m h = cond-asks (eqb (reg m.regs rt) 0) _ _ refl refl
asks-only (Cbnz rt z) m h = cond-asks (not (eqb (reg m.regs rt) 0)) _ _ refl refl
asks-only (Ldr rt rn imm) m h = cond-asks (can_access (wrap (reg_or_sp m.regs rn + 8 * imm))) _ _ refl refl
asks-only (Str rt rn imm) m h = cond-asks (can_access (wrap (reg_or_sp m.regs rn + 8 * imm))) _ _ refl refl
asks-only (LdrReg rt rn rm) m h = cond-asks (can_access (wrap (reg_or_sp m.regs rn + 8 * reg m.regs rm))) _ _ refl refl
asks-only (StrReg rt rn rm) m h = cond-asks (can_access (wrap (reg_or_sp m.regs rn + 8 * reg m.regs rm))) _ _ refl refl
asks-only (Svc number) m h = cond-asks (leb number 9) _ _ h refl
asks-only (Brk number) m h = cond-asks (leb 1 number && leb number 4) _ _ refl refl
asks-only _ m h = refl

cond-machine : (t : Bool) (a b : Running) (m : Machine) → a.machine ≡ m → b.machine ≡ m → (cond t a b).machine ≡ m
cond-machine true a b m p q = p
cond-machine false a b m p q = q

called-machine : (s : Running) (m : Machine) (number : ℕ) → eqb number 8 ≡ false → (called s m number).machine ≡ m
called-machine s m number h =
    cond-machine (eqb number 0) _ _ m refl
    (rw h (cond-machine (eqb number 9) _ _ m refl refl))

told-machine : (s : Running) (m : Machine) (e : Event) → asks e ≡ false → (told s m e).machine ≡ m
told-machine s m event.Next h = refl
told-machine s m (event.Svc number) h = called-machine s m number h
told-machine s m (event.Brk number) h = refl
told-machine s m (event.Fault kind) h = refl

-- without an input, a run has the machine that the step leaves
pub makes-machine : (s : Running) (m : Machine) (i : Inst) → takes_input i ≡ false → (makes s (act i m)).machine ≡ (act i m).machine
makes-machine s m i h = told-machine s (act i m).machine (act i m).event (asks-only i m h)

abbrev TakesOne : Running → Machine → Regs → Type 0
TakesOne next m left = next.end ≡ None → (input : ℤ) × (next.machine ≡ record m { regs = with_reg left 0 (unsigned input) })

takes-one : (s : Running) (m : Machine) (inputs : List ℤ) → TakesOne (with_input s m inputs) m m.regs
takes-one s m [] h = absurd (cc)
takes-one s m (input ∷ inputs) h = (input, refl)

-- with one, that is in X0 besides
pub makes-input : (s : Running) (m : Machine) (i : Inst) → takes_input i ≡ true → TakesOne (makes s (act i m)) (act i m).machine (act i m).machine.regs
makes-input s m (Svc number) h =
    let eight : number ≡ 8 = eqb-true number 8 h in
    subst (λ (n : ℕ). TakesOne (makes s (act (Svc n) m)) (act (Svc n) m).machine (act (Svc n) m).machine.regs) (sym eight) (takes-one s (act (Svc 8) m).machine s.inputs)
makes-input s m _ h = absurd (cc)
