-- The outputs of a run are what the entries of its journal print.
use Rattle.std.proofs.Common.{◌≡◌, ◌+◌, ◌*◌, ℕ, zero, suc, ℤ, Bool, true, false, not, cond, ◌&&◌, eqb, leb, List, [], ◌∷◌, ◌++◌, filter_map, Option, Some, None, option_and_then, refl, sym, ap, subst}
use Rattle.std.proofs.Common.{◌∙◌, arith, eqb-true, append_assoc, append-nil}
use Rattle.std.specs.List.{cons_option}
use Rattle.std.proofs.lemmas.List.Elements.{filter_map-append}
use Rattle.oat_journal.specs.{Event, Inst, BCond, Cbz, Cbnz, Ldr, Str, LdrReg, StrReg, Svc, Brk, inst_of, Machine, Effect, Regs, instruction_at, word_at, decodes, acts, act, step, signed, holds, reg}
use Rattle.oat_journal.specs.{reg_or_sp, wrap, can_access, Write, declared.end.DeviceEnd.DeviceEnd, Run.Running, Run.Entry, Run.found, Run.makes, Run.told, Run.called, Run.with_input, Run.turn}
use Rattle.oat_journal.specs.{Run.turns, Run.entry, Run.made_entry, Run.from_entry, Run.journal_from, TurnLaws.AddsUp, TurnLaws.MakesOne, TurnLaws.Rests}
use Rattle.oat_journal.proofs.RunLaws.{ended_runs_rest, one_turn, turns_add, turns_make_steps}
use Rattle.oat_follow.specs.Events.{printed}
use Rattle.oat_a64.specs.declared.event.Event.TheVariants as event

-- ---- what an instruction leaves

abbrev printed_by : Event → Regs → Option ℤ
printed_by (event.Svc number) r = cond (eqb number 9) (Some (signed (r.x 0))) None
printed_by _ r = None

input-outputs : (s : Running) (m : Machine) (inputs : List ℤ) → (with_input s m inputs).outputs ≡ s.outputs
input-outputs s m [] = refl
input-outputs s m (v ∷ vs) = refl

abbrev Leaves : Running → Machine → ℕ → Type 0
Leaves s m number = (called s m number).outputs ≡ s.outputs ++ cons_option (printed_by (event.Svc number) m.regs) []

called-outputs : (s : Running) (m : Machine) (number : ℕ) (a b c : Bool) → eqb number 0 ≡ a → eqb number 8 ≡ b → eqb number 9 ≡ c → Leaves s m number
called-outputs s m number true b c p q t = subst (Leaves s m) (sym (eqb-true number 0 p)) (sym (append-nil s.outputs))
called-outputs s m number false true c p q t =
    subst (Leaves s m) (sym (eqb-true number 8 q)) (input-outputs s m s.inputs ∙ sym (append-nil s.outputs))
called-outputs s m number false false true p q t = subst (Leaves s m) (sym (eqb-true number 9 t)) refl
called-outputs s m number false false false p q t = rw p (rw q (rw t (sym (append-nil s.outputs))))

told-outputs : (s : Running) (m : Machine) (e : Event) → (told s m e).outputs ≡ s.outputs ++ cons_option (printed_by e m.regs) []
told-outputs s m event.Next = sym (append-nil s.outputs)
told-outputs s m (event.Svc number) = called-outputs s m number (eqb number 0) (eqb number 8) (eqb number 9) refl refl refl
told-outputs s m (event.Brk number) = sym (append-nil s.outputs)
told-outputs s m (event.Fault kind) = sym (append-nil s.outputs)

-- what an effect tells is what the instruction prints
abbrev Prints : Inst → Machine → Effect → Type 0
Prints i m o = printed_by o.event o.machine.regs ≡ printed i m.regs

prints-if : (t : Bool) (a b : Effect) (i : Inst) (m : Machine) → Prints i m a → Prints i m b → Prints i m (cond t a b)
prints-if true a b i m p q = p
prints-if false a b i m p q = q

-- a monitor call with a number above 9 prints nothing
above : (number : ℕ) (v : ℤ) → leb number 9 ≡ false → cond (eqb number 9) (Some v) None ≡ None
above number v h = by (eqb number 9) refl where
  by : (b : Bool) → eqb number 9 ≡ b → cond b (Some v) None ≡ None
  by true is = absurd (let e : leb number 9 ≡ true = ap (λ (k : ℕ). leb k 9) (eqb-true number 9 is) in cc)
  by false is = refl

prints-svc : (number : ℕ) (m : Machine) (t : Bool) → leb number 9 ≡ t → Prints (Svc number) m (act (Svc number) m)
prints-svc number m true is = rw is refl
prints-svc number m false is = rw is (sym (above number (signed (m.regs.x 0)) is))

prints-same : (i : Inst) (m : Machine) → Prints i m (act i m)
prints-same (BCond c z) m = prints-if (holds c m.regs) _ _ (BCond c z) m refl refl
prints-same (Cbz rt z) m = prints-if (eqb (reg m.regs rt) 0) _ _ (Cbz rt z) m refl refl
prints-same (Cbnz rt z) m = prints-if (not (eqb (reg m.regs rt) 0)) _ _ (Cbnz rt z) m refl refl
prints-same (Ldr rt rn imm) m = prints-if (can_access (wrap (reg_or_sp m.regs rn + 8 * imm))) _ _ (Ldr rt rn imm) m refl refl
prints-same (Str rt rn imm) m = prints-if (can_access (wrap (reg_or_sp m.regs rn + 8 * imm))) _ _ (Str rt rn imm) m refl refl
prints-same (LdrReg rt rn rm) m = prints-if (can_access (wrap (reg_or_sp m.regs rn + 8 * reg m.regs rm))) _ _ (LdrReg rt rn rm) m refl refl
prints-same (StrReg rt rn rm) m = prints-if (can_access (wrap (reg_or_sp m.regs rn + 8 * reg m.regs rm))) _ _ (StrReg rt rn rm) m refl refl
prints-same (Svc number) m = prints-svc number m (leb number 9) refl
prints-same (Brk number) m = prints-if (leb 1 number && leb number 4) _ _ (Brk number) m refl refl
prints-same _ m = refl

-- ---- what prints nothing

-- what ends a run
ends-silently : (s : Running) (m : Machine) (r : Regs) (number : ℕ) → s.end ≡ None → (a b c : Bool) → eqb number 0 ≡ a → eqb number 8 ≡ b → eqb number 9 ≡ c
    → (why : DeviceEnd) → (called s m number).end ≡ Some why → printed_by (event.Svc number) r ≡ None
ends-silently s m r number going true b c p q t why h = subst (λ (k : ℕ). printed_by (event.Svc k) r ≡ None) (sym (eqb-true number 0 p)) refl
ends-silently s m r number going false true c p q t why h = subst (λ (k : ℕ). printed_by (event.Svc k) r ≡ None) (sym (eqb-true number 8 q)) refl
ends-silently s m r number going false false true p q t why h =
    absurd (let g : s.end ≡ Some why = rw t at (rw q at (rw p at h)) in cc)
ends-silently s m r number going false false false p q t why h = rw t refl

silent-end : (s : Running) (m : Machine) (e : Event) → s.end ≡ None → (why : DeviceEnd) → (told s m e).end ≡ Some why → printed_by e m.regs ≡ None
silent-end s m event.Next going why h = refl
silent-end s m (event.Svc number) going why h = ends-silently s m m.regs number going (eqb number 0) (eqb number 8) (eqb number 9) refl refl refl why h
silent-end s m (event.Brk number) going why h = refl
silent-end s m (event.Fault kind) going why h = refl

-- where no instruction stands
not-fetched : (word : Option ℕ) (m : Machine) → option_and_then inst_of word ≡ None → printed_by (decodes word m).event (decodes word m).machine.regs ≡ None
not-fetched None m h = refl
not-fetched (Some word) m h = subst (λ (o : Option Inst). printed_by (acts o m).event (acts o m).machine.regs ≡ None) (sym h) refl

-- ---- one turn

abbrev pub printed_at : Entry → Option ℤ
printed_at e = printed e.inst e.found.regs

abbrev PrintsOne : List ℕ → List Write → Running → Type 0
PrintsOne code writes s = (turn code writes s).outputs ≡ s.outputs ++ filter_map printed_at (from_entry (entry code writes s) [])

prints-none : (code : List ℕ) (writes : List Write) (s : Running) → (turn code writes s).outputs ≡ s.outputs ++ [] → entry code writes s ≡ None → PrintsOne code writes s
prints-none code writes s same none =
    same ∙ ap (λ (e : Option Entry). s.outputs ++ filter_map printed_at (from_entry e [])) (sym none)

turn-outputs : (code : List ℕ) (writes : List Write) (s : Running) (end : Option DeviceEnd) (o : Option Inst) (next : Option DeviceEnd)
    → s.end ≡ end → instruction_at code s.machine.regs.pc ≡ o → (turn code writes s).end ≡ next → PrintsOne code writes s
unfolding step turns journal_from
turn-outputs code writes s (Some why) o next was at is = by (ended_runs_rest code writes 1 s why was) where
  no-entry : (e : Option Entry) → from_entry e [] ≡ [] → e ≡ None
  no-entry None h = refl
  no-entry (Some e) h = absurd (cc)

  by : Rests code writes 1 s → PrintsOne code writes s
  by rests = prints-none code writes s (ap (λ (x : Running). x.outputs) rests.same ∙ sym (append-nil s.outputs)) (no-entry (entry code writes s) rests.no_more)
turn-outputs code writes s None None next was at is =
    let m = found writes s in
    let out : Effect = step code m in
    prints-none code writes s
    (ap (λ (x : Running). x.outputs) (turns_make_steps code writes s was) ∙ told-outputs s out.machine out.event
    ∙ ap (λ (v : Option ℤ). s.outputs ++ cons_option v []) (not-fetched (word_at code s.machine.regs.pc) m at))
    (ap (λ (o : Option Inst). made_entry o m (turn code writes s).end (turn code writes s)) at)
turn-outputs code writes s None (Some i) (Some why) was at is =
    let m = found writes s in
    let one : MakesOne code writes s i = one_turn code writes s i was at in
    let ends : (makes s (act i m)).end ≡ Some why = sym (ap (λ (x : Running). x.end) one.next) ∙ is in
    prints-none code writes s
    (ap (λ (x : Running). x.outputs) one.next ∙ told-outputs s (act i m).machine (act i m).event
    ∙ ap (λ (v : Option ℤ). s.outputs ++ cons_option v []) (silent-end s (act i m).machine (act i m).event was why ends))
    (ap (λ (o : Option Inst). made_entry o m (turn code writes s).end (turn code writes s)) at
    ∙ ap (λ (e : Option DeviceEnd). made_entry (Some i) m e (turn code writes s)) is)
turn-outputs code writes s None (Some i) None was at is =
    let m = found writes s in
    let one : MakesOne code writes s i = one_turn code writes s i was at in
    ap (λ (x : Running). x.outputs) one.next ∙ told-outputs s (act i m).machine (act i m).event
    ∙ ap (λ (v : Option ℤ). s.outputs ++ cons_option v []) (prints-same i m)
    ∙ ap (λ (e : Option Entry). s.outputs ++ filter_map printed_at (from_entry e [])) (sym (one.noted is))

-- ---- all turns

pub outputs-are : (code : List ℕ) (writes : List Write) (n : ℕ) (s : Running) → (turns code writes n s).outputs ≡ s.outputs ++ filter_map printed_at (journal_from code writes n s)
unfolding turns journal_from
outputs-are code writes zero s = sym (append-nil s.outputs)
outputs-are code writes (suc n) s =
    let adds : AddsUp code writes 1 n s = turns_add code writes 1 n s in
    let here = from_entry (entry code writes s) [] in
    let rest = journal_from code writes n (turn code writes s) in
    let count : 1 + n ≡ suc n = omega arith in
    outputs-are code writes n (turn code writes s)
    ∙ ap (λ (xs : List ℤ). xs ++ filter_map printed_at rest) (turn-outputs code writes s s.end (instruction_at code s.machine.regs.pc) (turn code writes s).end refl refl refl)
    ∙ append_assoc s.outputs (filter_map printed_at here) (filter_map printed_at rest)
    ∙ ap (λ (xs : List ℤ). s.outputs ++ xs) (sym (filter_map-append printed_at here rest)
    ∙ ap (filter_map printed_at) (sym adds.journal ∙ ap (λ (k : ℕ). journal_from code writes k s) count))
