-- From one step of a run to the next, and to its last one.
use Rattle.std.proofs.Common.{◌≡◌, ◌+◌, ◌-◌, ◌<◌, ◌≤◌, ◌⊎◌, ℕ, ℤ, true, List, [], ◌++◌, map, replicate, Option, Some, None, refl, sym, ap, subst, ◌∙◌, inl, inr, arith, append-nil}
use Rattle.std.specs.{Prelude.is_some, List.AllByRecursion}
use Rattle.std.proofs.Math.Path.{fun_ext}
use Rattle.std.proofs.lemmas.List.Sums.{fold-append}
use Rattle.oat_events.proofs.SourceLaws.{shown_from_more, state_after_more}
use Rattle.oat_check.specs.{Program, SourceEnd, SourceEvent, Finish, SourceMachine, Runs.main_number, Runs.source_events, Runs.source_of, Runs.source_run, Runs.source_start, Shown.written_end}
use Rattle.oat_check.specs.{Steps.LineEdge, Steps.SourceState, Steps.source_step, Globals.first_values, Rules.IsChecked, Keeping.IsConsistent}
use Rattle.oat_check.proofs.Sourcing.{ended_runs_stay, runs_are_consistent}
use Rattle.oat_meaning.specs.{declared.interpreter.Interpreter.Interpreter, Made.HasReached, Activations.CountsCalls, Activations.frame_of, Globals.values_of, Recording.RoomyRecord}
use Rattle.oat_meaning.specs.{Recording.nothing_recorded, Recording.event_added, Recording.events_added, SourceRun.SourceRun, SourceRun.end_so_far, SourceRun.events_so_far, SourceRun.first_run}
use Rattle.oat_meaning.specs.{Standing.HasStepped, Standing.finish_of, Standing.source_state_of}
use Rattle.oat_meaning.proofs.Passing.{all_alike}
use Rattle.oat_ir.specs.declared.source.SourceEnd.TheVariants as ends

pub stands_consistent : (m : Interpreter) (run : SourceRun) → HasReached m run → IsConsistent m.program.now (source_state_of m)
stands_consistent m run s =
    subst (λ (p : Program). IsConsistent p (source_state_of m)) (sym s.program)
    (subst (IsConsistent run.program) (sym s.state) (runs_are_consistent run.program s.checked run.inputs run.made))

-- ---- the start

-- what the code has of the start
pub record IsFirst (m : Interpreter) (p : Program) (inputs : List ℤ) (op steps : ℕ) : Type 0 where
  pub program : m.program.now ≡ p
  pub running : m.running ≡ record { func = main_number p.funcs; block = 0; line = 0; number = 0; locals = replicate 255 0 }
  pub callers : m.callers ≡ []
  pub globals : m.globals.program ≡ p
  pub values : values_of m.globals ≡ first_values p
  pub given : m.inputs.now ≡ inputs
  pub end : m.end ≡ ends.OutOfSteps
  pub kept : m.kept ≡ record { recorded = nothing_recorded op; left = steps }

pub first_stands : (m : Interpreter) (p : Program) (inputs : List ℤ) (op steps : ℕ) → IsChecked p → steps ≤ 4194304 → IsFirst m p inputs op steps → HasReached m (first_run p inputs op steps)
first_stands m p inputs op steps ok few f = record {
  checked = ok;
  program = f.program;
  ready = record {
    globals = f.globals ∙ sym f.program;
    running = subst (CountsCalls m.program.now) (sym f.running) refl;
    callers = subst (AllByRecursion (CountsCalls m.program.now)) (sym f.callers) tt;
  };
  state = λ i. record { frame = frame i; callers = map frame_of (f.callers i); globals = f.values i; inputs = f.given i; end = finish_of (f.end i) };
  recorded = ap (λ (r : RoomyRecord). r.recorded) f.kept;
  within = omega arith;
  few = few;
  left = let left = ap (λ (r : RoomyRecord). r.left) f.kept in omega (arith, left);
} where
  frame : frame_of m.running ≡ record { func = main_number p.funcs; block = 0; line = 0; locals = λ x. 0 }
  frame =
      ap frame_of f.running
      ∙ ap (λ (locals : ℕ → ℕ). record { func = main_number p.funcs; block = 0; line = 0; locals = locals }) (fun_ext (let none : ℕ = 0 in all_alike 255 none))

-- ---- one step more
pub step_follows : (m next : Interpreter) (run : SourceRun) → HasReached m run → run.made < run.steps → HasStepped m (source_step m.program.now (source_state_of m)) next
    → HasReached next (record run { made = run.made + 1 })
step_follows m next run s below made = record {
  checked = s.checked;
  program = made.program ∙ s.program;
  ready = made.ready;
  state = made.state ∙ (λ i. (source_step (s.program i) (s.state i)).state) ∙ sym (state_after_more machine run.made 1 begin);
  recorded = made.recorded ∙ (λ i. events_added (s.program i) (s.recorded i) (source_step (s.program i) (s.state i)).shown) ∙ sym (fold-append (event_added p) (nothing_recorded run.op) es shown) ∙ ap (events_added p (nothing_recorded run.op)) (sym more);
  within = omega (arith, below);
  few = s.few;
  left = let left = s.left in let spent = made.left in omega (arith, left, spent);
} where
  p : Program
  p = run.program

  machine : SourceMachine
  machine = source_of run.program run.inputs

  begin : SourceState
  begin = source_start run.program run.inputs

  es : List (SourceEvent LineEdge)
  es = events_so_far run

  shown : List (SourceEvent LineEdge)
  shown = (source_step run.program (source_run run.program run.inputs run.made)).shown

  more : source_events run.program run.inputs (run.made + 1) ≡ es ++ shown
  more = shown_from_more machine run.made 1 begin ∙ ap (λ (xs : List (SourceEvent LineEdge)). es ++ xs) (append-nil shown)

-- ---- the end

end_told : (m : Interpreter) (run : SourceRun) → HasReached m run → finish_of m.end ≡ (source_run run.program run.inputs run.made).end
end_told m run s = ap (λ (st : SourceState). st.end) s.state

reads_back : (e : SourceEnd) → e ≡ written_end (finish_of e)
reads_back ends.Halted = refl
reads_back (ends.Trap kind) = refl
reads_back ends.OutOfSteps = refl

pub end_is : (m : Interpreter) (run : SourceRun) → HasReached m run → m.end ≡ end_so_far run
end_is m run s = reads_back m.end ∙ ap written_end (end_told m run s)

-- a run that has ended is the run of all steps
pub all_made : (m : Interpreter) (run : SourceRun) → HasReached m run → is_some (finish_of m.end) ≡ true → HasReached m (record run { made = run.steps })
all_made m run s ended = by (finish_of m.end) refl ended where
  by : (e : Option Finish) → finish_of m.end ≡ e → is_some e ≡ true → HasReached m (record run { made = run.steps })
  by None is some = absurd (cc)
  by (Some why) is some =
      let within = s.within in
      let reach : run.made + (run.steps - run.made) ≡ run.steps = omega (arith, within) in
      let stays = ended_runs_stay run.program run.inputs run.made (run.steps - run.made) why (sym (end_told m run s) ∙ is) in
      record {
        checked = s.checked;
        program = s.program;
        ready = s.ready;
        state = s.state ∙ sym stays.0 ∙ ap (source_run run.program run.inputs) reach;
        recorded = s.recorded ∙ ap (events_added run.program (nothing_recorded run.op)) (sym stays.1 ∙ ap (source_events run.program run.inputs) reach);
        within = omega arith;
        few = s.few;
        left = omega arith;
      }

-- so is one whose steps are made
pub finished : (m : Interpreter) (run : SourceRun) → HasReached m run → (run.steps ≤ run.made) ⊎ (is_some (finish_of m.end) ≡ true) → HasReached m (record run { made = run.steps })
finished m run s (inl past) = let within = s.within in subst (λ (n : ℕ). HasReached m (record run { made = n })) (let all : run.made ≡ run.steps = omega (arith, past, within) in all) s
finished m run s (inr ended) = all_made m run s ended
