-- From one turn of a device to its whole run.
use Rattle.std.proofs.Common.{◌≡◌, ◌+◌, ◌-◌, ◌≤◌, ◌<◌, ℕ, ℤ, List, [], ◌∷◌, ◌++◌, false, Option, Some, None, refl, sym, ap, ◌∙◌, arith}
use Rattle.std.specs.{Prelude.MatchOption, Option.is_some, Option.unwrap_or}
use Rattle.std.proofs.lemmas.List.{append-nil}
use Rattle.oat_journal.specs.{Machine, Regs, first_regs, step, Case, Write, Image, Engine, Body, Opening, Stage, State, unmeasured, measuring, sealed, Measurements, at_start, body_of, measured_on}
use Rattle.oat_journal.specs.{sealed_bodies, Monitored, declared.end.DeviceEnd.DeviceEnd, declared.end.DeviceEnd.TheVariants.OutOfSteps, Run.found, Run.makes, Run.start_memory, Run.turn}
use Rattle.oat_journal.specs.{Run.unless_ended, Measured.Run, Measured.dev, Measured.end_of, Measured.opening_of, Measured.start_cells, Progress.Progress, Progress.after_turns, Progress.call_told}
use Rattle.oat_journal.specs.{Progress.first_of, Progress.going_on, Progress.measured_turn, Progress.progress_of_run, Progress.with_measurement}
use Rattle.oat_journal.proofs.RunLaws.{measured_ends_stay, measured_turns_follow, turns_are_the_run}
use Rattle.oat_device.specs.{declared.course.Course.Course, Bare.DoesFrom, DeviceRun.DeviceRun, DeviceRun.IsSealed, DeviceRun.ReportsItsBody, DeviceRun.bodies_so_far, DeviceRun.reported}
use Rattle.oat_device.specs.{DeviceRun.run_so_far, DeviceRun.window_opening, Telling.unnumbered, Standing.HasMade, Standing.IsReady, Standing.TakesTurn, Standing.engine_opening, Standing.progress_of}
use Rattle.oat_device.specs.{Standing.state_of, Standing.turns_of}
use Rattle.oat_measure.specs.declared.engine.Engine.TheVariants as engine

-- ---- what is told of a run

pub is-none : {X : Type 0} (o : Option X) → is_some o ≡ false → o ≡ None
is-none None is = refl
is-none (Some x) is = absurd (cc)

pub end-is : (e : Option DeviceEnd) (run : Run) → e ≡ run.end → unwrap_or e OutOfSteps ≡ end_of run
end-is e run is = ap (λ (x : Option DeviceEnd). unwrap_or x OutOfSteps) is ∙ by-end run.end where
  by-end : (x : Option DeviceEnd) → unwrap_or x OutOfSteps ≡ (elim x [ None ↦ OutOfSteps | Some why ↦ why ])
  by-end None = refl
  by-end (Some why) = refl

-- ---- the start

abbrev stands_at : Regs → (ℕ → ℕ) → List ℤ → List ℤ → Measurements → Progress
stands_at regs memory inputs outputs measurements = record {
  running = record { machine = record { regs = regs; memory = memory }; made = 0; inputs = inputs; outputs = outputs; end = None };
  measurements = measurements;
}

pub starts : (image : Image) (o : Opening) (regs : Regs) (memory : ℕ → ℕ) (given inputs outputs : List ℤ) (measurements : Measurements) → regs ≡ first_regs → memory ≡ start_memory image.words
    → given ≡ inputs → outputs ≡ [] → measurements ≡ at_start o (start_cells image) → stands_at regs memory given outputs measurements ≡ first_of image o inputs
starts image o regs memory given inputs outputs measurements regs_are memory_is given_are none measurements_are =
    λ i. stands_at (regs_are i) (memory_is i) (given_are i) (none i) (measurements_are i)

pub first-run : (image : Image) (case : Case) (o : Opening) → first_of image o case.inputs ≡ progress_of_run (dev image o case.inputs case.writes 0)
unfolding after_turns
first-run image case o = turns_are_the_run image o case.inputs case.writes 0

-- ---- turn by turn

-- the writes that are left do as all of them do
next-left : (code : List ℕ) (left writes : List Write) (o : Opening) (p : Progress) → DoesFrom p.running.made left writes → measured_turn code left o p ≡ measured_turn code writes o p
unfolding turn
next-left code left writes o p does =
    let s = p.running in
    let same : found left s ≡ found writes s = ap (λ (memory : ℕ → ℕ). record s.machine { memory = memory }) (does s.made s.machine.memory (omega arith)) in
    ap (λ (m : Machine). with_measurement (record p { running = unless_ended s.end s (makes s (step code m)) }) (measured_on o p.measurements (call_told (step code m).event s.machine.regs))) same

-- what one turn does
pub record Turned (now next : Course) : Type 0 where
  pub after : TakesTurn now next
  pub opening : engine_opening next.engine ≡ engine_opening now.engine
  pub steps : next.steps ≡ now.steps
  pub code : next.bare.code.now ≡ now.bare.code.now
  pub made : next.bare.made ≡ now.bare.made + 1
  pub writes : DoesFrom next.bare.made next.bare.writes.now now.bare.writes.now
  pub ready : IsReady next

pub turns-going : (device : Course) → device.bare.end ≡ None → turns_of device ≡ device.bare.made
turns-going device going = ap (λ (e : Option DeviceEnd). elim e as (λ _. ℕ) [ None ↦ device.bare.made | Some why ↦ device.steps ]) going

pub turns-ended : (device : Course) (why : DeviceEnd) → device.bare.end ≡ Some why → turns_of device ≡ device.steps
turns-ended device why ended = ap (λ (e : Option DeviceEnd). elim e as (λ _. ℕ) [ None ↦ device.bare.made | Some why ↦ device.steps ]) ended

abbrev made-by : Image → Case → ℕ → ℕ → Progress
made-by image case begin_at n = after_turns image.code case.writes (opening_of image case.session begin_at) n (first_of image (opening_of image case.session begin_at) case.inputs)

-- the run behind one more turn
pub run-next : (now next : Course) (image : Image) (case : Case) (begin_at : ℕ) → HasMade now image case begin_at → Turned now next → now.bare.end ≡ None
    → progress_of next ≡ made-by image case begin_at (now.bare.made + 1)
run-next now next image case begin_at s t going =
    let o = opening_of image case.session begin_at in
    let p = first_of image o case.inputs in
    let k = now.bare.made in
    let here : progress_of now ≡ after_turns image.code case.writes o k p =
    s.run ∙ sym (turns_are_the_run image o case.inputs case.writes (turns_of now)) ∙ ap (λ (n : ℕ). after_turns image.code case.writes o n p) (turns-going now going) in
    let first : progress_of next ≡ measured_turn image.code now.bare.writes.now o (progress_of now) =
    t.after o s.measures ∙ ap (λ (code : List ℕ). measured_turn code now.bare.writes.now o (progress_of now)) s.code in
    let all : progress_of next ≡ measured_turn image.code case.writes o (progress_of now) = first ∙ next-left image.code now.bare.writes.now case.writes o (progress_of now) s.writes in
    let on : measured_turn image.code case.writes o (progress_of now) ≡ going_on now.bare.end (progress_of now) (measured_turn image.code case.writes o (progress_of now)) =
    sym (ap (λ (e : Option DeviceEnd). going_on e (progress_of now) (measured_turn image.code case.writes o (progress_of now))) going) in
    all ∙ on
    ∙ ap (λ (q : Progress). going_on q.running.end q (measured_turn image.code case.writes o q)) here
    ∙ sym (measured_turns_follow image.code case.writes o k p)

-- as many turns as a device counts
counted-run : (next : Course) (image : Image) (case : Case) (begin_at k : ℕ) → next.bare.made ≡ k → k ≤ next.steps → progress_of next ≡ made-by image case begin_at k
    → progress_of next ≡ progress_of_run (dev image (opening_of image case.session begin_at) case.inputs case.writes (turns_of next))
counted-run next image case begin_at k made low run = by-end next.bare.end refl where
  o : Opening
  o = opening_of image case.session begin_at

  p : Progress
  p = first_of image o case.inputs

  by-end : (e : Option DeviceEnd) → next.bare.end ≡ e → progress_of next ≡ progress_of_run (dev image o case.inputs case.writes (turns_of next))
  by-end None going =
      run ∙ ap (λ (n : ℕ). after_turns image.code case.writes o n p) (sym made ∙ sym (turns-going next going))
      ∙ turns_are_the_run image o case.inputs case.writes (turns_of next)
  by-end (Some why) ended =
      let ends : (after_turns image.code case.writes o k p).running.end ≡ Some why = sym (ap (λ (q : Progress). q.running.end) run) ∙ ended in
      let reach : k + (next.steps - k) ≡ next.steps = omega (arith, low) in
      run ∙ sym (measured_ends_stay image.code case.writes o k (next.steps - k) p why ends)
      ∙ ap (λ (n : ℕ). after_turns image.code case.writes o n p) (reach ∙ sym (turns-ended next why ended))
      ∙ turns_are_the_run image o case.inputs case.writes (turns_of next)

pub made-next : (now next : Course) (image : Image) (case : Case) (begin_at : ℕ) → HasMade now image case begin_at → Turned now next → now.bare.end ≡ None
    → now.bare.made < now.steps → HasMade next image case begin_at
made-next now next image case begin_at s t going below =
    let steps = t.steps in
    let made = t.made in
    let low : now.bare.made + 1 ≤ next.steps = omega (arith, below, steps) in
    record {
      ready = t.ready;
      code = t.code ∙ s.code;
      steps = t.steps ∙ s.steps;
      within = omega (arith, low, made);
      measures = t.opening ∙ s.measures;
      run = counted-run next image case begin_at (now.bare.made + 1) t.made low (run-next now next image case begin_at s t going);
      writes = λ j memory later. t.writes j memory later ∙ s.writes j memory (omega (arith, later, made));
    }

-- A device on its way through the run of a case on an image: k instructions are made, or fewer where the run has ended.
pub record OnItsWay (now : Course) (image : Image) (case : Case) (begin_at k : ℕ) : Type 0 where
  pub standing : HasMade now image case begin_at
  pub counted : now.bare.end ≡ None → now.bare.made ≡ k

-- at its end, or behind the last of the steps, all steps are made
pub all-made : (device : Course) (steps : ℕ) → device.steps ≡ steps → (device.bare.end ≡ None → device.bare.made ≡ device.steps) → turns_of device ≡ steps
all-made device steps is done = by-end device.bare.end refl where
  by-end : (e : Option DeviceEnd) → device.bare.end ≡ e → turns_of device ≡ steps
  by-end None going = turns-going device going ∙ done going ∙ is
  by-end (Some why) ended = turns-ended device why ended ∙ is

-- ---- the bodies

-- what a device has measured so far
pub measurements-are : (course : Course) (device : DeviceRun) → HasMade course device.image device.case device.begin_at → device.turns ≡ turns_of course
    → (progress_of course).measurements ≡ (run_so_far device).measurements
measurements-are course device s turns =
    ap (λ (p : Progress). p.measurements) (s.run ∙ ap (λ (n : ℕ). progress_of_run (dev device.image (window_opening device) device.case.inputs device.case.writes n)) (sym turns))

abbrev last_of : Opening → State → Stage → List Body
last_of o s stage = elim stage [ unmeasured ↦ [] | measuring ↦ [] | sealed ↦ body_of o s ∷ [] ]

last-unsealed : (o : Opening) (s : State) (stage : Stage) → (stage ≡ sealed → ⊥) → last_of o s stage ≡ []
last-unsealed o s unmeasured open_still = refl
last-unsealed o s measuring open_still = refl
last-unsealed o s sealed open_still = absurd (open_still refl)

-- while the last window hasn't sealed, the bodies are those that were shelved
pub bodies-shelved : (device : DeviceRun) → (IsSealed (run_so_far device) → ⊥) → bodies_so_far device ≡ (run_so_far device).measurements.shelved
bodies-shelved device open_still =
    let m = (run_so_far device).measurements in
    ap (λ (last : List Body). m.shelved ++ last) (last-unsealed (window_opening device) m.state m.state.stage open_still) ∙ append-nil m.shelved

pub sealed-is : (course : Course) (device : DeviceRun) → HasMade course device.image device.case device.begin_at → device.turns ≡ turns_of course
    → {B : Type 0} (now : B → Monitored) (result : Option B)
    → MatchOption result ((state_of course.engine).stage ≡ sealed → ⊥) (λ b. course.engine ≡ Some (engine.After (now b)))
    → MatchOption result (IsSealed (run_so_far device) → ⊥) (λ b. ReportsItsBody device (now b))
sealed-is course device s turns {B = B} now result told = by-result result told where
  o : Opening
  o = window_opening device

  same : (progress_of course).measurements ≡ (run_so_far device).measurements
  same = measurements-are course device s turns

  by-result : (r : Option B) → MatchOption r ((state_of course.engine).stage ≡ sealed → ⊥) (λ b. course.engine ≡ Some (engine.After (now b)))
      → MatchOption r (IsSealed (run_so_far device) → ⊥) (λ b. ReportsItsBody device (now b))
  by-result None none = λ shut. none (ap (λ (m : Measurements). m.state.stage) same ∙ shut)
  by-result (Some b) some =
      let shown = now b in
      let here : Measurements = record { shelved = course.shelf.bodies; state = state_of (Some (engine.After shown)) } in
      let all : here ≡ (run_so_far device).measurements = sym (ap (λ (e : Option Engine). record { shelved = course.shelf.bodies; state = state_of e }) some) ∙ same in
      let own : engine_opening (Some (engine.After shown)) ≡ Some (unnumbered o) = sym (ap engine_opening some) ∙ s.measures in
      let opens : unnumbered shown.opening ≡ unnumbered o = cc in
      record {
        sealed = sym (ap (λ (m : Measurements). m.state.stage) all);
        body =
            sym (ap (sealed_bodies o) all)
            ∙ ap (λ (q : Opening). course.shelf.bodies ++ body_of q (state_of (Some (engine.After shown))) ∷ []) (sym opens)
            ∙ ap (λ (m : Measurements). m.shelved ++ reported shown ∷ []) all;
      }
