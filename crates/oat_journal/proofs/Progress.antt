-- Turn by turn an interpreter comes to the measured run.
use Rattle.std.proofs.Common.{◌≡◌, ◌+◌, ◌*◌, ℕ, zero, suc, ℤ, Bool, true, false, cond, ◌&&◌, not, eqb, leb, List, [], ◌∷◌, map, Option, Some, None, Result, Ok, Err, refl, sym, ap, subst, ◌∙◌, arith}
use Rattle.std.proofs.Common.{eqb-true, option_and_then}
use Rattle.oat_image.specs.declared.image.Image.{Image}
use Rattle.oat_case.specs.declared.case.Write.{Write}
use Rattle.oat_measure.specs.{Event, Inst, inst_of, BCond, Cbz, Cbnz, Ldr, Str, LdrReg, StrReg, Svc, Brk, Regs, Machine, Effect, instruction_at, word_at, act, acts, decodes, step, holds, reg}
use Rattle.oat_measure.specs.{reg_or_sp, wrap, can_access, declared.opening.Opening.Opening, Monitor.monitor_call, Monitor.call_numbered, declared.call.MonitorCall.MonitorCall, Shelving.Measurements}
use Rattle.oat_measure.specs.{Shelving.Measured, Shelving.at_start, Shelving.with_rest, Shelving.measured_on, Shelving.measures, declared.stop.StopKind.StopKind}
use Rattle.oat_journal.specs.{declared.end.DeviceEnd.DeviceEnd, declared.end.DeviceEnd.TheVariants.Stopped, Run.Running, Run.Entry, Run.started, Run.found, Run.makes, Run.told, Run.called, Run.turn}
use Rattle.oat_journal.specs.{Run.turns, Run.unless_ended, Run.entry, Run.made_entry, Run.from_entry, Run.journal_from, Window.made_call, Measured.run_until, Measured.start_cells, Progress.Progress}
use Rattle.oat_journal.specs.{Progress.call_told, Progress.kept, Progress.stop_of, Progress.stopped_by, Progress.measured_turn, Progress.going_on, Progress.after_turns, Progress.progress_of_run}
use Rattle.oat_journal.specs.{Progress.TurnsAreTheRun}
use Rattle.oat_journal.proofs.Turns.{EntryIs, entry-is, step-is}
use Rattle.oat_a64.specs.declared.event.Event.TheVariants as event

-- ---- the call of an entry

-- an event that ends no run: it tells the call that the instruction makes
abbrev Fits : Event → Inst → Regs → Type 0
Fits (event.Fault kind) i r = Unit {0}
Fits e i r = call_told e r ≡ monitor_call i r

fits-if : (t : Bool) (a b : Effect) (i : Inst) (r : Regs) → Fits a.event i r → Fits b.event i r → Fits (cond t a b).event i r
fits-if true a b i r p q = p
fits-if false a b i r p q = q

tells : (i : Inst) (m : Machine) (r : Regs) → Fits (act i m).event i r
tells (BCond c z) m r = fits-if (holds c m.regs) _ _ (BCond c z) r refl refl
tells (Cbz rt z) m r = fits-if (eqb (reg m.regs rt) 0) _ _ (Cbz rt z) r refl refl
tells (Cbnz rt z) m r = fits-if (not (eqb (reg m.regs rt) 0)) _ _ (Cbnz rt z) r refl refl
tells (Ldr rt rn imm) m r = fits-if (can_access (wrap (reg_or_sp m.regs rn + 8 * imm))) _ _ (Ldr rt rn imm) r refl tt
tells (Str rt rn imm) m r = fits-if (can_access (wrap (reg_or_sp m.regs rn + 8 * imm))) _ _ (Str rt rn imm) r refl tt
tells (LdrReg rt rn rm) m r = fits-if (can_access (wrap (reg_or_sp m.regs rn + 8 * reg m.regs rm))) _ _ (LdrReg rt rn rm) r refl tt
tells (StrReg rt rn rm) m r = fits-if (can_access (wrap (reg_or_sp m.regs rn + 8 * reg m.regs rm))) _ _ (StrReg rt rn rm) r refl tt
tells (Svc number) m r = fits-if (leb number 9) _ _ (Svc number) r refl tt
tells (Brk number) m r = fits-if (leb 1 number && leb number 4) _ _ (Brk number) r refl tt
tells _ m r = refl

-- where the run goes on, no fault was told
fits-going : (s : Running) (m : Machine) (e : Event) (i : Inst) (r : Regs) → (told s m e).end ≡ None → Fits e i r → call_told e r ≡ monitor_call i r
fits-going s m event.Next i r on fits = fits
fits-going s m (event.Svc number) i r on fits = fits
fits-going s m (event.Brk number) i r on fits = fits
fits-going s m (event.Fault kind) i r on fits = absurd (cc)

pub turn-going : (code : List ℕ) (writes : List Write) (s : Running) → s.end ≡ None → turn code writes s ≡ makes s (step code (found writes s))
unfolding turn
turn-going code writes s going = ap (λ (e : Option DeviceEnd). unless_ended e s (makes s (step code (found writes s)))) going

call-of-entry : (code : List ℕ) (writes : List Write) (s : Running) (e : Entry) → EntryIs code writes s e
    → call_told (step code (found writes s)).event s.machine.regs ≡ made_call e
call-of-entry code writes s e is =
    let m = found writes s in
    let stepped : step code m ≡ act e.inst m = step-is code m e.inst is.fetched in
    let made : turn code writes s ≡ makes s (act e.inst m) = turn-going code writes s is.going ∙ ap (makes s) stepped in
    let on : (makes s (act e.inst m)).end ≡ None = sym (ap (λ (x : Running). x.end) made) ∙ is.goes_on in
    ap (λ (o : Effect). call_told o.event s.machine.regs) stepped
    ∙ fits-going s (act e.inst m).machine (act e.inst m).event e.inst s.machine.regs on (tells e.inst m s.machine.regs)
    ∙ ap (λ (x : Machine). monitor_call e.inst x.regs) (sym is.found)

-- ---- a turn without an entry ends the run, and makes no call that is measured

svc-quiet : (s : Running) (m : Machine) (r : Regs) (number : ℕ) → s.end ≡ None → (a b c : Bool) → eqb number 0 ≡ a → eqb number 8 ≡ b → eqb number 9 ≡ c
    → (why : DeviceEnd) → (called s m number).end ≡ Some why → call_numbered number r ≡ None
svc-quiet s m r number going true b c p q t why h = subst (λ (k : ℕ). call_numbered k r ≡ None) (sym (eqb-true number 0 p)) refl
svc-quiet s m r number going false true c p q t why h = subst (λ (k : ℕ). call_numbered k r ≡ None) (sym (eqb-true number 8 q)) refl
svc-quiet s m r number going false false true p q t why h = subst (λ (k : ℕ). call_numbered k r ≡ None) (sym (eqb-true number 9 t)) refl
svc-quiet s m r number going false false false p q t why h =
    absurd (let g : s.end ≡ Some why = rw t at (rw q at (rw p at h)) in cc)

ends-quietly : (s : Running) (m : Machine) (r : Regs) (e : Event) → s.end ≡ None → (why : DeviceEnd) → (told s m e).end ≡ Some why → call_told e r ≡ None
ends-quietly s m r event.Next going why h = refl
ends-quietly s m r (event.Svc number) going why h = svc-quiet s m r number going (eqb number 0) (eqb number 8) (eqb number 9) refl refl refl why h
ends-quietly s m r (event.Brk number) going why h = refl
ends-quietly s m r (event.Fault kind) going why h = refl

pub record Ends (s : Running) : Type 0 where
  pub why : DeviceEnd
  pub is : s.end ≡ Some why

not-fetched : (word : Option ℕ) (s : Running) (m : Machine) → option_and_then inst_of word ≡ None → Ends (makes s (decodes word m))
not-fetched None s m h = record { why = _; is = refl }
not-fetched (Some word) s m h = subst (λ (o : Option Inst). Ends (makes s (acts o m))) (sym h) (record { why = _; is = refl })

pub no-entry : (code : List ℕ) (writes : List Write) (s : Running) → s.end ≡ None → (o : Option Inst) (e : Option DeviceEnd)
    → instruction_at code s.machine.regs.pc ≡ o → (turn code writes s).end ≡ e → made_entry o (found writes s) e (turn code writes s) ≡ None → Ends (turn code writes s)
unfolding step
no-entry code writes s going o (Some why) at is h = record { why = why; is = is }
no-entry code writes s going (Some i) None at is h = absurd (cc)
no-entry code writes s going None None at is h =
    subst Ends (sym (turn-going code writes s going)) (not-fetched (word_at code s.machine.regs.pc) s (found writes s) at)

-- ---- an ended run stays

pub stays : (code : List ℕ) (writes : List Write) (s : Running) → Ends s → turn code writes s ≡ s
unfolding turn
stays code writes s ends = ap (λ (e : Option DeviceEnd). unless_ended e s (makes s (step code (found writes s)))) ends.is

pub turns-stay : (code : List ℕ) (writes : List Write) (n : ℕ) (s : Running) → Ends s → turns code writes n s ≡ s
unfolding turns
turns-stay code writes zero s ends = refl
turns-stay code writes (suc n) s ends = ap (turns code writes n) (stays code writes s ends) ∙ turns-stay code writes n s ends

pub progress-stays : (code : List ℕ) (writes : List Write) (o : Opening) (n : ℕ) (p : Progress) → Ends p.running → after_turns code writes o n p ≡ p
unfolding after_turns
progress-stays code writes o zero p ends = refl
progress-stays code writes o (suc n) p ends =
    ap (λ (e : Option DeviceEnd). after_turns code writes o n (going_on e p (measured_turn code writes o p))) ends.is ∙ progress-stays code writes o n p ends

pub no-entries : (code : List ℕ) (writes : List Write) (n : ℕ) (s : Running) → entry code writes s ≡ None → journal_from code writes n s ≡ []
unfolding journal_from
no-entries code writes zero s none = refl
no-entries code writes (suc n) s none = ap (λ (e : Option Entry). from_entry e (journal_from code writes n (turn code writes s))) none

-- ---- the whole run

abbrev until : List ℕ → List Write → ℕ → Running → Measured → Option StopKind → Progress
until code writes n s m None = record { running = turns code writes n s; measurements = m.measurements }
until code writes n s m (Some stop) = record { running = record (turns code writes m.taken s) { end = Some (Stopped stop) }; measurements = m.measurements }

abbrev run_from : List ℕ → List Write → Opening → ℕ → Running → Measurements → Measured
run_from code writes o n s st = measures o st (map made_call (journal_from code writes n s))

abbrev Same : List ℕ → List Write → Opening → ℕ → Running → Measurements → Type 0
Same code writes o n s st =
    after_turns code writes o n (record { running = s; measurements = st }) ≡ until code writes n s (run_from code writes o n s st) (run_from code writes o n s st).stop

abbrev advanced : List ℕ → List Write → Running → Measurements → Result Measurements StopKind → Progress
advanced code writes s st r = record { running = stopped_by (stop_of r) (turn code writes s); measurements = kept st r }

next-is : (code : List ℕ) (writes : List Write) (o : Opening) (n : ℕ) (s : Running) (st : Measurements) (call : Option MonitorCall) → s.end ≡ None
    → call_told (step code (found writes s)).event s.machine.regs ≡ call
    → after_turns code writes o (suc n) (record { running = s; measurements = st }) ≡ after_turns code writes o n (advanced code writes s st (measured_on o st call))
unfolding after_turns
next-is code writes o n s st call going is =
    ap (λ (e : Option DeviceEnd). after_turns code writes o n (going_on e (record { running = s; measurements = st }) (measured_turn code writes o (record { running = s; measurements = st })))) going
    ∙ ap (λ (c : Option MonitorCall). after_turns code writes o n (advanced code writes s st (measured_on o st c))) is

same-at : (code : List ℕ) (writes : List Write) (o : Opening) (n : ℕ) (s : Running) (st : Measurements) (last : Running) (js : List Entry) → js ≡ [] → turns code writes n s ≡ last
    → until code writes n s (measures o st (map made_call js)) (measures o st (map made_call js)).stop ≡ record { running = last; measurements = st }
unfolding measures
same-at code writes o n s st last js none stay =
    ap (λ (x : List Entry). until code writes n s (measures o st (map made_call x)) (measures o st (map made_call x)).stop) none
    ∙ ap (λ (x : Running). record { running = x; measurements = st }) stay

same-none : (code : List ℕ) (writes : List Write) (o : Opening) (n : ℕ) (s : Running) (st : Measurements) → (js : List Entry) → js ≡ [] → turns code writes n s ≡ s
    → until code writes n s (measures o st (map made_call js)) (measures o st (map made_call js)).stop ≡ record { running = s; measurements = st }
same-none code writes o n s st js none stay = same-at code writes o n s st s js none stay

add-one-is : (k : ℕ) → k + 1 ≡ suc k
add-one-is k = omega arith

until-next : (code : List ℕ) (writes : List Write) (n : ℕ) (s : Running) (m : Measured) (stop : Option StopKind)
    → until code writes (suc n) s (record m { taken = m.taken + 1 }) stop ≡ until code writes n (turn code writes s) m stop
unfolding turns
until-next code writes n s m None = refl
until-next code writes n s m (Some stop) =
    ap (λ (k : ℕ). record { running = record (turns code writes k s) { end = Some (Stopped stop) }; measurements = m.measurements }) (add-one-is m.taken)

same-step : (code : List ℕ) (writes : List Write) (o : Opening) (n : ℕ) (s : Running) (st : Measurements) (calls : List (Option MonitorCall)) → (r : Result Measurements StopKind)
    → ((next : Measurements) → after_turns code writes o n (record { running = turn code writes s; measurements = next }) ≡ until code writes n (turn code writes s) (measures o next calls) (measures o next calls).stop)
    → after_turns code writes o n (advanced code writes s st r) ≡ until code writes (suc n) s (with_rest st r (λ (next : Measurements). measures o next calls)) (with_rest st r (λ (next : Measurements). measures o next calls)).stop
unfolding turns
same-step code writes o n s st calls (Ok next) rest =
    rest next ∙ sym (until-next code writes n s (measures o next calls) (measures o next calls).stop)
same-step code writes o n s st calls (Err stop) rest =
    progress-stays code writes o n (record { running = record (turn code writes s) { end = Some (Stopped stop) }; measurements = st }) (record { why = Stopped stop; is = refl })

turns-next : (code : List ℕ) (writes : List Write) (n : ℕ) (s : Running) → turns code writes (suc n) s ≡ turns code writes n (turn code writes s)
unfolding turns
turns-next code writes n s = refl

journal-next : (code : List ℕ) (writes : List Write) (n : ℕ) (s : Running) (e : Entry) → entry code writes s ≡ Some e → journal_from code writes (suc n) s ≡ e ∷ journal_from code writes n (turn code writes s)
unfolding journal_from
journal-next code writes n s e is = ap (λ (x : Option Entry). from_entry x (journal_from code writes n (turn code writes s))) is

measures-next : (o : Opening) (st : Measurements) (call : Option MonitorCall) (calls : List (Option MonitorCall)) → measures o st (call ∷ calls) ≡ with_rest st (measured_on o st call) (λ (next : Measurements). measures o next calls)
unfolding measures
measures-next o st call calls = refl

same-ended : (code : List ℕ) (writes : List Write) (o : Opening) (n : ℕ) (s : Running) (st : Measurements) → Ends s → entry code writes s ≡ None → Same code writes o n s st
same-ended code writes o n s st ends none =
    progress-stays code writes o n (record { running = s; measurements = st }) ends
    ∙ sym (same-none code writes o n s st (journal_from code writes n s) (no-entries code writes n s none) (turns-stay code writes n s ends))

same-last : (code : List ℕ) (writes : List Write) (o : Opening) (n : ℕ) (s : Running) (st : Measurements) → s.end ≡ None → Ends (turn code writes s) → entry code writes s ≡ None → Same code writes o (suc n) s st
same-last code writes o n s st going ends none =
    let told_end : (makes s (step code (found writes s))).end ≡ Some ends.why = sym (ap (λ (x : Running). x.end) (turn-going code writes s going)) ∙ ends.is in
    let quiet = ends-quietly s (step code (found writes s)).machine s.machine.regs (step code (found writes s)).event going ends.why told_end in
    let stay : turns code writes (suc n) s ≡ turn code writes s = turns-next code writes n s ∙ turns-stay code writes n (turn code writes s) ends in
    next-is code writes o n s st None going quiet
    ∙ progress-stays code writes o n (record { running = turn code writes s; measurements = st }) ends
    ∙ sym (same-at code writes o (suc n) s st (turn code writes s) (journal_from code writes (suc n) s) (no-entries code writes (suc n) s none) stay)

same-entry : (code : List ℕ) (writes : List Write) (o : Opening) (n : ℕ) (s : Running) (st : Measurements) (e : Entry) → entry code writes s ≡ Some e
    → ((next : Measurements) → Same code writes o n (turn code writes s) next) → Same code writes o (suc n) s st
same-entry code writes o n s st e is rest =
    let w = entry-is code writes s e is in
    let calls = map made_call (journal_from code writes n (turn code writes s)) in
    let m : run_from code writes o (suc n) s st ≡ with_rest st (measured_on o st (made_call e)) (λ (next : Measurements). measures o next calls) =
    ap (λ (js : List Entry). measures o st (map made_call js)) (journal-next code writes n s e is) ∙ measures-next o st (made_call e) calls in
    next-is code writes o n s st (made_call e) w.going (call-of-entry code writes s e w)
    ∙ same-step code writes o n s st calls (measured_on o st (made_call e)) rest
    ∙ sym (ap (λ (x : Measured). until code writes (suc n) s x x.stop) m)

same-by : (code : List ℕ) (writes : List Write) (o : Opening) (n : ℕ) (s : Running) (st : Measurements) → ((next : Measurements) → Same code writes o n (turn code writes s) next)
    → (end : Option DeviceEnd) (x : Option Entry) → s.end ≡ end → entry code writes s ≡ x → Same code writes o (suc n) s st
same-by code writes o n s st rest end (Some e) was is = same-entry code writes o n s st e is rest
same-by code writes o n s st rest (Some why) None was is = same-ended code writes o (suc n) s st (record { why = why; is = was }) is
same-by code writes o n s st rest None None was is =
    same-last code writes o n s st was (no-entry code writes s was (instruction_at code s.machine.regs.pc) (turn code writes s).end refl refl is) is

same : (code : List ℕ) (writes : List Write) (o : Opening) (n : ℕ) (s : Running) (st : Measurements) → Same code writes o n s st
unfolding after_turns journal_from measures turns
same code writes o zero s st = refl
same code writes o (suc n) s st = same-by code writes o n s st (λ next. same code writes o n (turn code writes s) next) s.end (entry code writes s) refl refl

as-run : (image : Image) (inputs : List ℤ) (writes : List Write) (n : ℕ) (m : Measured) (stop : Option StopKind)
    → until image.code writes n (started image inputs) m stop ≡ progress_of_run (run_until image inputs writes n m stop)
as-run image inputs writes n m None = refl
as-run image inputs writes n m (Some stop) = refl

pub turns_are_the_run : TurnsAreTheRun
turns_are_the_run image o inputs writes n =
    let m = run_from image.code writes o n (started image inputs) (at_start o (start_cells image)) in
    same image.code writes o n (started image inputs) (at_start o (start_cells image)) ∙ as-run image inputs writes n m m.stop
