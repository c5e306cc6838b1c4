-- What the bodies of a run report, and that their windows are traces.
use Rattle.std.proofs.Common.{◌≡◌, ◌+◌, ◌≤◌, ℕ, zero, suc, ℤ, Bool, true, false, cond, not, eqb, IsTrue, List, [], ◌∷◌, ◌++◌, length, map, take, filter_map, slice_get, Option, Some, None, Result, Ok}
use Rattle.std.proofs.Common.{Err, refl, sym, ap, subst, ◌∙◌, arith, add-one, eqb-true, eq-eqb}
use Rattle.std.specs.{Prelude.nat_le, List.All, List.cons_option}
use Rattle.std.proofs.lemmas.{Bool.and_parts, Bool.leb-true, List.take-map}
use Rattle.oat_image.specs.declared.image.Image.{Image}
use Rattle.oat_case.specs.declared.case.Write.{Write}
use Rattle.oat_measure.specs.{Inst, Svc, Regs, act, next_pc, Body, declared.opening.Opening.Opening, Monitor.monitor_call, declared.call.MonitorCall.MonitorCall, declared.stop.StopKind.StopKind}
use Rattle.oat_measure.specs.{Shelving.Measurements, Shelving.Measured, Shelving.at_start, Shelving.measured_on, Shelving.measures, Shelving.serial_of, Shelving.with_rest}
use Rattle.oat_journal.specs.{Run.Running, Run.Entry, Run.AreGiven, Run.entry, Run.from_entry, Run.journal, Run.journal_from, Run.next_of, Run.started, Run.turn, Journal.takes_input, Journal.IsMade}
use Rattle.oat_journal.specs.{Window.made_call, Window.recorded_bit, Window.recorded_target, Window.window, Uses.CheckedUse, Uses.IsSound, Measured.BodiesAreCalledFor, Measured.BodiesTellWindows}
use Rattle.oat_journal.specs.{Measured.HasBody, Measured.NoViolationMeansSound, Measured.Run, Measured.dev, Measured.first_unsound, Measured.run_until, Measured.start_cells, Measured.uses_of}
use Rattle.oat_journal.specs.{Measured.window_of, Trace.IsTrace, Trace.WindowsAreTraces, TurnLaws.CountsOfCasesFit, TurnLaws.RecordsAreFew}
use Rattle.oat_journal.proofs.{Bounds.journal_is_bounded, Linkage.journal_is_made, Linkage.journal_is_linked, Lengths.taken_few, Lengths.windows_are_short, Sealing.held_first, Sealing.sound-uses}
use Rattle.oat_journal.proofs.{Shelves.session, Windows.Placed, Windows.Told, Windows.told}
use Rattle.oat_measure.specs.declared.call.MonitorCall.TheVariants as svc

-- ---- the calls up to a stop come to the same

one-more : (k : ℕ) → k + 1 ≡ suc k
one-more k = omega arith

up-to-stop : (o : Opening) (m : Measurements) (call : Option MonitorCall) (calls : List (Option MonitorCall))
    → ((next : Measurements) (stop : StopKind) → (measures o next calls).stop ≡ Some stop → session o next (take (measures o next calls).taken calls) ≡ (measures o next calls).measurements)
    → (r : Result Measurements StopKind) → measured_on o m call ≡ r → (stop : StopKind) → (with_rest m r (λ (next : Measurements). measures o next calls)).stop ≡ Some stop
    → session o m (take (with_rest m r (λ (next : Measurements). measures o next calls)).taken (call ∷ calls)) ≡ (with_rest m r (λ (next : Measurements). measures o next calls)).measurements
unfolding measures
up-to-stop o m call calls rest (Err first) was stop h =
    ap (λ (r : Result Measurements StopKind). (with_rest m r (λ (n : Measurements). measures o n [])).measurements) was
up-to-stop o m call calls rest (Ok next) was stop h =
    let k = (measures o next calls).taken in
    ap (λ (n : ℕ). session o m (take n (call ∷ calls))) (one-more k)
    ∙ (ap (λ (r : Result Measurements StopKind). (with_rest m r (λ (n : Measurements). measures o n (take k calls))).measurements) was ∙ rest next stop h)

stopped-front : (o : Opening) (calls : List (Option MonitorCall)) (m : Measurements) (stop : StopKind) → (measures o m calls).stop ≡ Some stop
    → session o m (take (measures o m calls).taken calls) ≡ (measures o m calls).measurements
unfolding measures
stopped-front o [] m stop h = absurd (let q : None ≡ Some stop = h in cc)
stopped-front o (call ∷ calls) m stop h = up-to-stop o m call calls (λ next later is. stopped-front o calls next later is) (measured_on o m call) refl stop h

-- ---- a shorter journal is the front of a longer one

front-of : (code : List ℕ) (writes : List Write) (k n : ℕ) (s : Running) → k ≤ length (journal_from code writes n s) → journal_from code writes k s ≡ take k (journal_from code writes n s)
unfolding journal_from
front-of code writes zero n s few = refl
front-of code writes (suc k) zero s few = absurd (omega arith)
front-of code writes (suc k) (suc n) s few = by (entry code writes s) few (λ low. front-of code writes k n (turn code writes s) low) where
  by : (e : Option Entry) → suc k ≤ length (from_entry e (journal_from code writes n (turn code writes s)))
      → (k ≤ length (journal_from code writes n (turn code writes s)) → journal_from code writes k (turn code writes s) ≡ take k (journal_from code writes n (turn code writes s)))
      → from_entry e (journal_from code writes k (turn code writes s)) ≡ take (suc k) (from_entry e (journal_from code writes n (turn code writes s)))
  by None few rest = absurd (omega arith)
  by (Some first) few rest = ap (λ (es : List Entry). first ∷ es) (rest (omega arith))

-- ---- a run's measurements are those of its journal's calls

record Ran (image : Image) (o : Opening) (inputs : List ℤ) (writes : List Write) (run : Run) : Type 0 where
  length_of : ℕ
  journal_is : run.journal ≡ journal image inputs writes length_of
  measured_is : session o (at_start o (start_cells image)) (map made_call run.journal) ≡ run.measurements

ran : (image : Image) (o : Opening) (inputs : List ℤ) (writes : List Write) (n : ℕ) → Ran image o inputs writes (dev image o inputs writes n)
ran image o inputs writes n = by m.stop refl where
  m : Measured
  m = measures o (at_start o (start_cells image)) (map made_call (journal image inputs writes n))

  by : (stop : Option StopKind) → m.stop ≡ stop → Ran image o inputs writes (run_until image inputs writes n m stop)
  by None was = record { length_of = n; journal_is = refl; measured_is = refl }
  by (Some stop) was = record {
    length_of = m.taken;
    journal_is = refl;
    measured_is = ap (λ (js : List Entry). session o (at_start o (start_cells image)) (map made_call js))
        (front-of image.code writes m.taken n (started image inputs) (taken_few o (journal image inputs writes n) (at_start o (start_cells image))))
        ∙ (ap (session o (at_start o (start_cells image))) (sym (take-map made_call m.taken (journal image inputs writes n)))
        ∙ stopped-front o (map made_call (journal image inputs writes n)) (at_start o (start_cells image)) stop was);
  }

-- ---- a body and its window

told-of : (image : Image) (o : Opening) (inputs : List ℤ) (writes : List Write) (n s : ℕ) (body : Body) → HasBody o (dev image o inputs writes n) s body
    → Told made_call o (start_cells image) [] (serial_of o s) s (dev image o inputs writes n).journal body
told-of image o inputs writes n s body h =
    let r = ran image o inputs writes n in
    let none : 0 + s ≡ s = omega arith in
    told s made_call o (start_cells image) [] (dev image o inputs writes n).journal [] (at_start o (start_cells image)).state body
    (record { stage = refl; bits = refl; targets = refl }) refl (held_first (start_cells image))
    (subst (λ (m : Measurements). Rattle.oat_measure.specs.Shelving.IsBodyAt o m (0 + s) body) (sym r.measured_is) (subst (λ (k : ℕ). HasBody o (dev image o inputs writes n) k body) (sym none) h))

pub bodies_tell_windows : BodiesTellWindows
bodies_tell_windows image o inputs writes n s body h =
    let t = told-of image o inputs writes n s body h in
    record { op = t.op; nonce = t.nonce; digest = t.digest; serial = t.serial; hash = t.hash; bits = t.bits; targets = t.targets; violation = t.violation }

pub bodies_are_called_for : BodiesAreCalledFor
bodies_are_called_for image o inputs writes n s body h = (told-of image o inputs writes n s body h).called_for

-- ---- what no violation means

none-unsound : (checked : List CheckedUse) → All IsSound checked → first_unsound checked ≡ None
none-unsound [] h = refl
none-unsound (use_ ∷ others) h =
    ap (λ (t : Bool). cond t (first_unsound others) (Some (record { cell = use_.cell; expected = use_.defined; found = use_.found })))
    (eq-eqb use_.defined use_.found (sym (h 0 use_ (omega arith))))
    ∙ none-unsound others (λ k d lt. h (suc k) d (omega arith))

pub no_violation_means_sound : NoViolationMeansSound
no_violation_means_sound image o inputs writes n s body is =
    let t = bodies_tell_windows image o inputs writes n s body is in
    record {
      sound = λ none. sound-uses (uses_of image o s (dev image o inputs writes n)) (sym t.violation ∙ none);
      none = λ sound. t.violation ∙ none-unsound (uses_of image o s (dev image o inputs writes n)) sound;
    }

-- ---- where the window stands in the journal

in-front : {A : Type 0} (xs ys : List A) (k : ℕ) (a : A) → slice_get xs k ≡ Some a → slice_get (xs ++ ys) k ≡ Some a
in-front [] ys k a h = absurd (cc)
in-front (x ∷ xs) ys zero a h = h
in-front (x ∷ xs) ys (suc k) a h = in-front xs ys k a h

behind-front : {A : Type 0} (xs ys : List A) (k : ℕ) (a : A) → slice_get ys k ≡ Some a → slice_get (xs ++ ys) (length xs + k) ≡ Some a
behind-front [] ys k a h =
    let n : k ≡ 0 + k = omega arith in subst (λ (i : ℕ). slice_get ys i ≡ Some a) n h
behind-front (x ∷ xs) ys k a h =
    let n : suc (length xs + k) ≡ length (x ∷ xs) + k = omega arith in
    subst (λ (i : ℕ). slice_get (x ∷ (xs ++ ys)) i ≡ Some a) n (behind-front xs ys k a h)

-- an element of a middle part is one of the whole
in-middle : {A : Type 0} (xs before : List A) (one : A) (middle beyond : List A) → xs ≡ before ++ one ∷ (middle ++ beyond)
    → (k : ℕ) (a : A) → slice_get middle k ≡ Some a → slice_get xs (length before + (k + 1)) ≡ Some a
in-middle {A} xs before one middle beyond whole k a h =
    let inside : slice_get (one ∷ (middle ++ beyond)) (k + 1) ≡ Some a = rw add-one (in-front middle beyond k a h) in
    subst (λ (ys : List A). slice_get ys (length before + (k + 1)) ≡ Some a) (sym whole) (behind-front before (one ∷ (middle ++ beyond)) (k + 1) a inside)

at-one : {A : Type 0} (xs before : List A) (one : A) (rest : List A) → xs ≡ before ++ one ∷ rest → slice_get xs (length before + 0) ≡ Some one
at-one {A} xs before one rest whole =
    subst (λ (ys : List A). slice_get ys (length before + 0) ≡ Some one) (sym whole) (behind-front before (one ∷ rest) 0 one refl)

-- ---- the call that opens

abbrev NoBegin : Option MonitorCall → Type 0
NoBegin o = (op at : ℕ) → o ≡ Some (svc.Begin op at) → ⊥

no-begin-if : (t : Bool) (a b : Option MonitorCall) → NoBegin a → NoBegin b → NoBegin (cond t a b)
no-begin-if true a b p q = p
no-begin-if false a b p q = q

begin-if : (number : ℕ) (r : Regs) (other : Option MonitorCall) → NoBegin other → (t : Bool) → eqb number 1 ≡ t → (op at : ℕ)
    → cond t (Some (svc.Begin (r.x 9) r.pc)) other ≡ Some (svc.Begin op at) → (Svc number ≡ Svc 1) × (r.pc ≡ at)
begin-if number r other none true is op at h = (ap Svc (eqb-true number 1 is), cc)
begin-if number r other none false is op at h = absurd (none op at h)

begin-is : (i : Inst) (r : Regs) (op at : ℕ) → monitor_call i r ≡ Some (svc.Begin op at) → (i ≡ Svc 1) × (r.pc ≡ at)
begin-is (Svc number) r op at h =
    begin-if number r _
    (no-begin-if (eqb number 2) (Some (svc.End (r.x 9))) _ (λ a b q. cc)
    (no-begin-if (eqb number 3) (Some (svc.Bit (r.x 9))) _ (λ a b q. cc)
    (no-begin-if (eqb number 4) (Some (svc.Target (r.x 9))) _ (λ a b q. cc)
    (no-begin-if (eqb number 5) (Some (svc.Return (r.x 30))) _ (λ a b q. cc)
    (no-begin-if (eqb number 6) (Some (svc.Define (r.x 9) (r.x 10))) _ (λ a b q. cc)
    (no-begin-if (eqb number 7) (Some (svc.Use (r.x 9) (r.x 10))) None (λ a b q. cc) (λ a b q. cc)))))))
    (eqb number 1) refl op at h
begin-is _ r op at h = absurd (cc)

-- it leads to the next instruction
begin-leads : (code : List ℕ) (e : Entry) (op at : ℕ) → IsMade code e → made_call e ≡ Some (svc.Begin op at) → next_of e ≡ next_pc at
begin-leads code e op at made is =
    let begin = begin-is e.inst e.found.regs op at is in
    let no : IsTrue (not (takes_input e.inst)) = subst (λ (i : Inst). IsTrue (not (takes_input i))) (sym begin.0) refl in
    ap (λ (r : Regs). r.pc) (made.steps no) ∙ ap (λ (i : Inst). (act i e.found).machine.regs.pc) begin.0 ∙ ap next_pc begin.1

-- ---- traces

trace-from : (image : Image) (o : Opening) (inputs : List ℤ) (writes : List Write) (n s : ℕ) → AreGiven inputs writes
    → (w : Placed made_call o s (journal image inputs writes n)) → IsTrace image.code o.op (next_pc o.begin_at) (w.front ++ w.last ∷ [])
trace-from image o inputs writes n s given w =
    let js = journal image inputs writes n in
    let place = in-middle js w.before w.opening (w.front ++ w.last ∷ []) w.rest w.whole in
    let begin = at-one js w.before w.opening ((w.front ++ w.last ∷ []) ++ w.rest) w.whole in
    record {
      made = λ k e h. (journal_is_made image inputs writes n (length w.before + (k + 1)) e (place k e h), journal_is_bounded image inputs writes n (length w.before + (k + 1)) e given (place k e h));
      linked = λ k e next h g.
          let i : length w.before + ((k + 1) + 1) ≡ (length w.before + (k + 1)) + 1 = omega arith in
          journal_is_linked image inputs writes n (length w.before + (k + 1)) e next (place k e h)
          (subst (λ (j : ℕ). slice_get js j ≡ Some next) i (place (k + 1) next g));
      starts = λ e h.
          let i : length w.before + (0 + 1) ≡ (length w.before + 0) + 1 = omega arith in
          let follows = journal_is_linked image inputs writes n (length w.before + 0) w.opening e begin
          (subst (λ (j : ℕ). slice_get js j ≡ Some e) i (place 0 e h)) in
          follows.place ∙ begin-leads image.code w.opening o.op o.begin_at (journal_is_made image inputs writes n (length w.before + 0) w.opening begin) w.opens;
      front = w.front;
      last = w.last;
      whole = refl;
      seals = w.seals;
      quiet = w.quiet;
    }

pub windows_are_traces : WindowsAreTraces
windows_are_traces image o inputs writes n s body given is =
    let r = ran image o inputs writes n in
    let t = told-of image o inputs writes n s body is in
    let placed : Placed made_call o s (journal image inputs writes r.length_of) = subst (Placed made_call o s) r.journal_is t.placed in
    let same : window_of o s (dev image o inputs writes n) ≡ placed.front ++ placed.last ∷ [] = ap (window made_call o.op o.begin_at s) r.journal_is ∙ placed.window_is in
    subst (IsTrace image.code o.op (next_pc o.begin_at)) (sym same) (trace-from image o inputs writes r.length_of s given placed)

-- ---- lengths

filtered-few : {X Y : Type 0} (f : X → Option Y) (xs : List X) → length (filter_map f xs) ≤ length xs
filtered-few f [] = omega arith
filtered-few {X} {Y} f (x ∷ xs) = by (f x) (filtered-few f xs) where
  by : (o : Option Y) → length (filter_map f xs) ≤ length xs → length (cons_option o (filter_map f xs)) ≤ suc (length xs)
  by None few = omega arith
  by (Some y) few = omega arith

pub records_are_few : RecordsAreFew
records_are_few image o inputs writes n s body h =
    let t = bodies_tell_windows image o inputs writes n s body h in
    let window = window_of o s (dev image o inputs writes n) in
    let short = windows_are_short image o inputs writes n s in
    let bits = filtered-few (λ (e : Entry). recorded_bit (made_call e)) window in
    let targets = filtered-few (λ (e : Entry). recorded_target (made_call e)) window in
    let bits_are : length body.bits ≡ length (filter_map (λ (e : Entry). recorded_bit (made_call e)) window) = ap length t.bits in
    let targets_are : length body.targets ≡ length (filter_map (λ (e : Entry). recorded_target (made_call e)) window) = ap length t.targets in
    record { bits = omega (arith, short, bits, bits_are); targets = omega (arith, short, targets, targets_are) }

pub counts_of_cases_fit : CountsOfCasesFit
counts_of_cases_fit image o case s body formed h =
    let few = records_are_few image o case.inputs case.writes case.steps s body h in
    let steps : case.steps ≤ 4194304 = leb-true case.steps 4194304 (and_parts (nat_le 1 case.steps) (nat_le case.steps 4194304) formed.steps).1 in
    let bits = few.bits in
    let targets = few.targets in
    record { bits = omega (arith, bits, steps); targets = omega (arith, targets, steps) }
