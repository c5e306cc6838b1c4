-- From one turn of a device to the next entry of its journal.
use Rattle.std.proofs.Common.{◌≡◌, ◌+◌, ◌-◌, ◌<◌, ℕ, Bool, true, false, cond, eqb, eqb-true, ltb, List, [], ◌∷◌, ◌++◌, Option, Some, None, Result, Ok, Err, inr, refl, sym, ap, subst, ◌∙◌, arith}
use Rattle.std.specs.{Prelude.IsSome, Option.is_some}
use Rattle.std.proofs.lemmas.Bool.{ltb-true}
use Rattle.oat_a64.proofs.FetchLemmas.{word_from_inst}
use Rattle.oat_cpu.specs.Processor.{regs_of}
use Rattle.oat_journal.specs.{Event, Machine, Regs, step, word_at, Word, Case, Write, Image, MonitorCall, Opening, StopKind, call_numbered, Measurements, measured_on, declared.end.DeviceEnd.DeviceEnd}
use Rattle.oat_journal.specs.{declared.end.DeviceEnd.TheVariants.Halted, declared.end.DeviceEnd.TheVariants.OutOfSteps, Measured.Run, Measured.dev, Measured.opening_of, Progress.Progress}
use Rattle.oat_journal.specs.{Progress.call_told, Progress.measured_turn, Progress.progress_of_run, Progress.with_measurement, Run.Entry, Run.Running, Run.bare, Run.ends_with, Run.found, Run.moves_on}
use Rattle.oat_journal.specs.{Run.told, Run.turn, Run.with_input, Run.with_output, Window.made_call}
use Rattle.oat_journal.proofs.RunLaws.{turns_are_the_run, turns_make_steps}
use Rattle.oat_device.specs.{Advancing.HasEntry, Advancing.HasNoEntry, Advancing.end_by_now, declared.course.Course.Course, declared.entry.Entry.Entry as ShownEntry, DeviceRun.DeviceRun}
use Rattle.oat_device.specs.{DeviceRun.run_so_far, Standing.HasMade, Standing.progress_of, Standing.turns_of}
use Rattle.oat_device.proofs.{Growing.Adds, Growing.adds, Growing.goes, Growing.next_entry, Growing.stays, Runs.Turned, Runs.run-next, Runs.turns-ended, Runs.turns-going}
use Rattle.oat_a64.specs.declared.event.Event.TheVariants as event

-- ---- an instruction that ends a run by itself makes no monitor call

called-by : (s : Running) (m : Machine) (r : Regs) (number : ℕ) (why : DeviceEnd) → s.end ≡ None → (told s m (event.Svc number)).end ≡ Some why → call_numbered number r ≡ None
called-by s m r number why going ended = by (eqb number 0) refl where
  other : (b c : Bool) → eqb number 8 ≡ b → eqb number 9 ≡ c
      → (cond b (with_input s m s.inputs) (cond c (with_output s m) (moves_on s m))).end ≡ Some why
      → call_numbered number r ≡ None
  other true c eight is h = ap (λ (n : ℕ). call_numbered n r) (eqb-true number 8 eight)
  other false true eight is h = absurd (let q : None ≡ Some why = sym going ∙ h in cc)
  other false false eight is h = absurd (let q : None ≡ Some why = sym going ∙ h in cc)

  by : (b : Bool) → eqb number 0 ≡ b → call_numbered number r ≡ None
  by true is = ap (λ (n : ℕ). call_numbered n r) (eqb-true number 0 is)
  by false is = other (eqb number 8) (eqb number 9) refl refl (ap (λ (b : Bool). (cond b (ends_with s m Halted) (cond (eqb number 8) (with_input s m s.inputs) (cond (eqb number 9) (with_output s m) (moves_on s m)))).end) (sym is) ∙ ended)

no-call : (s : Running) (m : Machine) (r : Regs) (e : Event) (why : DeviceEnd) → s.end ≡ None → (told s m e).end ≡ Some why → call_told e r ≡ None
no-call s m r event.Next why going ended = refl
no-call s m r (event.Svc number) why going ended = called-by s m r number why going ended
no-call s m r (event.Brk number) why going ended = refl
no-call s m r (event.Fault kind) why going ended = refl

-- so one that ends it measures nothing
ends-unmeasured : (code : List ℕ) (writes : List Write) (o : Opening) (p : Progress) (why : DeviceEnd) → p.running.end ≡ None → (measured_turn code writes o p).running.end ≡ Some why
    → (measured_turn code writes o p).measurements ≡ p.measurements
ends-unmeasured code writes o p why going ended = by (measured_on o p.measurements (call_told (step code (found writes p.running)).event p.running.machine.regs)) refl where
  by : (result : Result Measurements StopKind) → measured_on o p.measurements (call_told (step code (found writes p.running)).event p.running.machine.regs) ≡ result
      → (measured_turn code writes o p).measurements ≡ p.measurements
  by (Err stop) was = ap (λ (result : Result Measurements StopKind). (with_measurement (record p { running = turn code writes p.running }) result).measurements) was
  by (Ok next) was =
      let turned : (turn code writes p.running).end ≡ Some why =
      sym (ap (λ (result : Result Measurements StopKind). (with_measurement (record p { running = turn code writes p.running }) result).running.end) was) ∙ ended in
      let none : call_told (step code (found writes p.running)).event p.running.machine.regs ≡ None =
      no-call p.running (step code (found writes p.running)).machine p.running.machine.regs (step code (found writes p.running)).event why going
      (sym (ap (λ (s : Running). s.end) (turns_make_steps code writes p.running going)) ∙ turned) in
      ap (λ (c : Option MonitorCall). (with_measurement (record p { running = turn code writes p.running }) (measured_on o p.measurements c)).measurements) none

-- ---- one turn

abbrev pub device_of : Image → Case → ℕ → Course → DeviceRun
device_of image case begin_at course = record { image = image; case = case; begin_at = begin_at; turns = turns_of course }

-- what is shown of the instruction between two courses
abbrev pub shown : ℕ → Course → Course → ShownEntry
shown word now next = record {
  word = word;
  pc = now.bare.cpu.pc;
  next = next.bare.cpu.pc;
  x9 = (regs_of now.bare.cpu).x 9;
  x10 = (regs_of now.bare.cpu).x 10;
  x30 = (regs_of now.bare.cpu).x 30;
}

-- a run that goes on hasn't ended by itself, and has steps left
abbrev end-by : ℕ → ℕ → Option DeviceEnd → Option DeviceEnd
end-by turns steps end = elim end [ None ↦ cond (ltb turns steps) None (Some OutOfSteps) | Some why ↦ Some why ]

pub goes-on : (now : Course) (image : Image) (case : Case) (begin_at : ℕ) → HasMade now image case begin_at → end_by_now (device_of image case begin_at now) ≡ None → (now.bare.end ≡ None) × (now.bare.made < now.steps)
goes-on now image case begin_at s on = by now.bare.end refl where
  same : end-by (turns_of now) case.steps now.bare.end ≡ None
  same = ap (λ (p : Progress). end-by (turns_of now) case.steps p.running.end) s.run ∙ on

  left : (b : Bool) → ltb (turns_of now) case.steps ≡ b → end-by (turns_of now) case.steps None ≡ None → turns_of now < case.steps
  left true is none = ltb-true (turns_of now) case.steps is
  left false is none = absurd (let q : Some OutOfSteps ≡ None = sym (ap (λ (b : Bool). cond b None (Some OutOfSteps)) is) ∙ none in cc)

  by : (e : Option DeviceEnd) → now.bare.end ≡ e → (now.bare.end ≡ None) × (now.bare.made < now.steps)
  by None is =
      let below = left (ltb (turns_of now) case.steps) refl (sym (ap (end-by (turns_of now) case.steps) is) ∙ same) in
      let turns = turns-going now is in
      let steps = s.steps in (is, omega (arith, below, turns, steps))
  by (Some why) is = absurd (let q : Some why ≡ None = sym (ap (end-by (turns_of now) case.steps) is) ∙ same in cc)

module _ (now next : Course) (image : Image) (case : Case) (begin_at : ℕ) (s : HasMade now image case begin_at) (t : Turned now next) (going : now.bare.end ≡ None) (below : now.bare.made < now.steps) where
  abbrev o : Opening
  o = opening_of image case.session begin_at

  abbrev run : ℕ → Run
  run n = dev image o case.inputs case.writes n

  abbrev old : DeviceRun
  old = device_of image case begin_at now

  abbrev new : DeviceRun
  new = device_of image case begin_at next

  progress-now : progress_of now ≡ progress_of_run (run now.bare.made)
  progress-now = s.run ∙ ap (λ (n : ℕ). progress_of_run (run n)) (turns-going now going)

  progress-next : progress_of next ≡ progress_of_run (run (now.bare.made + 1))
  progress-next = run-next now next image case begin_at s t going ∙ turns_are_the_run image o case.inputs case.writes (now.bare.made + 1)

  -- the run so far is that of one instruction more
  pub makes-next : run_so_far new ≡ run (now.bare.made + 1)
  makes-next = by next.bare.end refl where
    by : (e : Option DeviceEnd) → next.bare.end ≡ e → run (turns_of next) ≡ run (now.bare.made + 1)
    by None on = ap run (turns-going next on ∙ t.made)
    by (Some why) ended =
        let steps = t.steps in
        let reach : (now.bare.made + 1) + (next.steps - (now.bare.made + 1)) ≡ next.steps = omega (arith, below, steps) in
        ap run (turns-ended next why ended ∙ sym reach)
        ∙ stays image o case.inputs case.writes (now.bare.made + 1) (next.steps - (now.bare.made + 1)) why (sym (ap (λ (p : Progress). p.running.end) progress-next) ∙ ended)

  pub makes-one : run_so_far new ≡ run (turns_of now + 1)
  makes-one = makes-next ∙ ap (λ (n : ℕ). run (n + 1)) (sym (turns-going now going))

  -- an instruction that ends the run has no entry
  pub has-no-entry : IsSome next.bare.end → HasNoEntry old new
  has-no-entry is = by next.bare.end refl where
    by : (e : Option DeviceEnd) → next.bare.end ≡ e → HasNoEntry old new
    by None on = absurd (let q : is_some next.bare.end ≡ false = ap is_some on in cc)
    by (Some why) ended =
        let end : (run_so_far new).end ≡ Some why = ap (λ (r : Run). r.end) makes-next ∙ (sym (ap (λ (p : Progress). p.running.end) progress-next) ∙ ended) in
        let turned : progress_of next ≡ measured_turn now.bare.code.now now.bare.writes.now o (progress_of now) = t.after o s.measures in
        let kept : (progress_of next).measurements ≡ (progress_of now).measurements =
        ap (λ (p : Progress). p.measurements) turned
        ∙ ends-unmeasured now.bare.code.now now.bare.writes.now o (progress_of now) why going (sym (ap (λ (p : Progress). p.running.end) turned) ∙ ended) in
        record {
          ends = inr (subst IsSome (sym end) refl);
          whole = turns-ended next why ended ∙ (t.steps ∙ s.steps);
          measured = ap (λ (r : Run). r.measurements) makes-next
              ∙ (sym (ap (λ (p : Progress). p.measurements) progress-next) ∙ (kept ∙ (ap (λ (p : Progress). p.measurements) progress-now
              ∙ ap (λ (n : ℕ). (run n).measurements) (sym (turns-going now going)))));
        }

  -- ---- an instruction that doesn't

  pub record Added : Type 0 where
    pub adds : Adds image o case.inputs case.writes now.bare.made
    pub found_at : regs_of now.bare.cpu ≡ (bare image case.inputs case.writes now.bare.made).machine.regs
    pub left_at : regs_of next.bare.cpu ≡ (bare image case.inputs case.writes (now.bare.made + 1)).machine.regs
    pub ends_not : (run_so_far new).end ≡ None

  pub added : next.bare.end ≡ None → Added
  added on =
      let here : (run now.bare.made).end ≡ None = sym (ap (λ (p : Progress). p.running.end) progress-now) ∙ going in
      let there : (run (now.bare.made + 1)).end ≡ None = sym (ap (λ (p : Progress). p.running.end) progress-next) ∙ on in
      record {
        adds = adds image o case.inputs case.writes now.bare.made here there;
        found_at = ap (λ (p : Progress). p.running.machine.regs) progress-now
            ∙ ap (λ (r : Run). r.running.machine.regs) (goes image o case.inputs case.writes now.bare.made here).run_is;
        left_at = ap (λ (p : Progress). p.running.machine.regs) progress-next
            ∙ ap (λ (r : Run). r.running.machine.regs) (goes image o case.inputs case.writes (now.bare.made + 1) there).run_is;
        ends_not = ap (λ (r : Run). r.end) makes-next ∙ there;
      }

  fetches-there : (a : Added) → word_at next.bare.code.now now.bare.cpu.pc ≡ Some a.adds.fetches.word
  fetches-there a =
      ap (λ (code : List ℕ). word_at code now.bare.cpu.pc) (t.code ∙ s.code)
      ∙ (ap (λ (r : Regs). word_at image.code r.pc) a.found_at ∙ a.adds.fetches.at)

  pub has-word : next.bare.end ≡ None → IsSome (word_at next.bare.code.now now.bare.cpu.pc)
  has-word on = subst IsSome (sym (fetches-there (added on))) refl

  pub has-entry : next.bare.end ≡ None → end_by_now old ≡ None → (word : ℕ) → word_at next.bare.code.now now.bare.cpu.pc ≡ Some word
      → HasEntry old new (shown word now next)
  has-entry on went_on word at =
      let a = added on in
      let both : Some a.adds.fetches.word ≡ Some word = sym (fetches-there a) ∙ at in
      let same : a.adds.fetches.word ≡ word = cc in
      let entry = next_entry image o case.inputs case.writes now.bare.made a.adds.fetches.inst in
      record {
        went_on = went_on;
        goes_on = a.ends_not;
        counted = turns-going next on ∙ (t.made ∙ ap (λ (n : ℕ). n + 1) (sym (turns-going now going)));
        entry = entry;
        behind = ap (λ (r : Run). r.journal) makes-next
            ∙ (a.adds.journal_is ∙ ap (λ (n : ℕ). (run n).journal ++ entry ∷ []) (sym (turns-going now going)));
        measured = ap (λ (n : ℕ). measured_on o (run n).measurements (made_call entry)) (turns-going now going)
            ∙ (a.adds.measured ∙ ap (λ (r : Run). Ok r.measurements) (sym makes-next));
        shows = record {
          word = subst (Word a.adds.fetches.inst) same (word_from_inst a.adds.fetches.inst a.adds.fetches.word a.adds.fetches.is);
          pc = ap (λ (r : Regs). r.pc) a.found_at;
          next = ap (λ (r : Regs). r.pc) a.left_at;
          x9 = ap (λ (r : Regs). r.x 9) a.found_at;
          x10 = ap (λ (r : Regs). r.x 10) a.found_at;
          x30 = ap (λ (r : Regs). r.x 30) a.found_at;
        };
      }
