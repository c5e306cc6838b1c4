-- An interpreter on its way stands for the run, step by step, and what it has recorded is what the run shows.
use Rattle.std.proofs.Common.{◌≡◌, ◌+◌, ◌-◌, ◌≤◌, ◌<◌, ◌⊎◌, ℕ, Bool, true, false, cond, eqb, ◌&&◌, ◌||◌, List, [], ◌∷◌, ◌++◌, Option, Some, None, refl, sym, ap, subst, ◌∙◌, inl, inr, arith, append_assoc, append-nil}
use Rattle.std.specs.Prelude.{is_some}
use Rattle.std.specs.List.{list_any}
use Rattle.oat_check.specs.Shown.{written_end}
use Rattle.oat_events.specs.Events.{SourceEvent, takes, enters, leaves, loads, stores, outputs, is_entered, is_left}
use Rattle.oat_events.specs.Source.{Finish, SourceMachine, outputs_of}
use Rattle.oat_events.specs.Windows.{beyond}
use Rattle.oat_events.proofs.SourceLaws.{shown_from_more, state_after_more}
use Rattle.oat_ir.specs.declared.source.SourceEnd.{SourceEnd}
use Rattle.oat_ir.specs.declared.source.SourceEnd.TheVariants as ends
use Rattle.oat_meaning.specs.Standing.{finish_of}
use Rattle.oat_tree.specs.Seen.{seen_tree}
use Rattle.oat_langrun.specs.declared.interpreter.Interpreter.{Interpreter}
use Rattle.oat_langrun.specs.Keeping.{IsGood}
use Rattle.oat_langrun.specs.LangRuns.{RunSoFar, completed_so_far, end_so_far, events_so_far, outputs_so_far}
use Rattle.oat_langrun.specs.Made.{HasReached}
use Rattle.oat_langrun.specs.Meaning.{LangState, lang_events, lang_run, lang_start, lang_step, machine_of}
use Rattle.oat_langrun.specs.Recording.{Recorded, events_added, nothing_recorded, output_added, when_entered, when_left}
use Rattle.oat_langrun.specs.Running.{HasStepped, code_of, state_of, tree_of}
use Rattle.oat_langrun.specs.Steps.{Routines, routines_of}
use Rattle.oat_langrun.proofs.Resuming.{ready_again, same_code}
use Rattle.oat_langrun.proofs.Runs.{ended_runs_stay}
use Rattle.oat_langrun.proofs.Stepping.{step_lawful}
use Rattle.oat_langrun.proofs.Words.{events_append}

-- ---- what is recorded

outputs_recorded : (es : List (SourceEvent ℕ)) (r : Recorded) → (events_added r es).outputs ≡ r.outputs ++ outputs_of es
outputs_recorded [] r = sym (append-nil r.outputs)
outputs_recorded (takes edge ∷ es) r = outputs_recorded es r
outputs_recorded (enters op ∷ es) r = outputs_recorded es (when_entered r op)
outputs_recorded (leaves op ∷ es) r = outputs_recorded es (when_left r op)
outputs_recorded (loads cell value ∷ es) r = outputs_recorded es r
outputs_recorded (stores cell value ∷ es) r = outputs_recorded es r
outputs_recorded (outputs value ∷ es) r = outputs_recorded es (output_added r value) ∙ append_assoc r.outputs (value ∷ []) (outputs_of es)

-- a first call that has completed
done_recorded : (es : List (SourceEvent ℕ)) (r : Recorded) → r.completed ≡ true → (events_added r es).completed ≡ true
done_recorded [] r h = h
done_recorded (takes edge ∷ es) r h = done_recorded es r h
done_recorded (enters op ∷ es) r h = done_recorded es (when_entered r op) h
done_recorded (leaves op ∷ es) r h = done_recorded es (when_left r op) (ap (λ (t : Bool). t || (r.begun && eqb op r.op)) h)
done_recorded (loads cell value ∷ es) r h = done_recorded es r h
done_recorded (stores cell value ∷ es) r h = done_recorded es r h
done_recorded (outputs value ∷ es) r h = done_recorded es (output_added r value) h

-- one that has begun
begun_recorded : (es : List (SourceEvent ℕ)) (r : Recorded) → r.begun ≡ true → r.completed ≡ false → (events_added r es).completed ≡ list_any (is_left r.op) es
begun_recorded [] r b h = h
begun_recorded (takes edge ∷ es) r b h = begun_recorded es r b h
begun_recorded (enters op ∷ es) r b h = begun_recorded es (when_entered r op) (ap (λ (t : Bool). t || eqb op r.op) b) h
begun_recorded (leaves op ∷ es) r b h = by (eqb op r.op) refl (begun_recorded es (when_left r op) b) where
  now : (when_left r op).completed ≡ eqb op r.op
  now = ap (λ (t : Bool). t || (r.begun && eqb op r.op)) h ∙ ap (λ (t : Bool). t && eqb op r.op) b

  by : (t : Bool) → eqb op r.op ≡ t → ((when_left r op).completed ≡ false → (events_added (when_left r op) es).completed ≡ list_any (is_left r.op) es)
      → (events_added (when_left r op) es).completed ≡ (t || list_any (is_left r.op) es)
  by true e rest = done_recorded es (when_left r op) (now ∙ e)
  by false e rest = rest (now ∙ e)
begun_recorded (loads cell value ∷ es) r b h = begun_recorded es r b h
begun_recorded (stores cell value ∷ es) r b h = begun_recorded es r b h
begun_recorded (outputs value ∷ es) r b h = begun_recorded es (output_added r value) b h

-- and none yet
fresh_recorded : (es : List (SourceEvent ℕ)) (r : Recorded) → r.begun ≡ false → r.completed ≡ false → (events_added r es).completed ≡ list_any (is_left r.op) (beyond (is_entered r.op) es)
fresh_recorded [] r b h = h
fresh_recorded (takes edge ∷ es) r b h = fresh_recorded es r b h
fresh_recorded (enters op ∷ es) r b h = by (eqb op r.op) refl (λ k. fresh_recorded es (when_entered r op) k h) where
  now : (when_entered r op).begun ≡ eqb op r.op
  now = ap (λ (t : Bool). t || eqb op r.op) b

  by : (t : Bool) → eqb op r.op ≡ t → ((when_entered r op).begun ≡ false → (events_added (when_entered r op) es).completed ≡ list_any (is_left r.op) (beyond (is_entered r.op) es))
      → (events_added (when_entered r op) es).completed ≡ list_any (is_left r.op) (cond t es (beyond (is_entered r.op) es))
  by true e rest = begun_recorded es (when_entered r op) (now ∙ e) h
  by false e rest = rest (now ∙ e)
fresh_recorded (leaves op ∷ es) r b h = fresh_recorded es (when_left r op) b (ap (λ (t : Bool). t || (r.begun && eqb op r.op)) h ∙ ap (λ (t : Bool). t && eqb op r.op) b)
fresh_recorded (loads cell value ∷ es) r b h = fresh_recorded es r b h
fresh_recorded (stores cell value ∷ es) r b h = fresh_recorded es r b h
fresh_recorded (outputs value ∷ es) r b h = fresh_recorded es (output_added r value) b h

pub outputs_told : (m : Interpreter) (run : RunSoFar) → HasReached m run → m.kept.recorded.outputs ≡ outputs_so_far run
outputs_told m run h = ap (λ (r : Recorded). r.outputs) h.recorded ∙ outputs_recorded (events_so_far run) (nothing_recorded run.op)

pub completed_told : (m : Interpreter) (run : RunSoFar) → HasReached m run → m.kept.recorded.completed ≡ completed_so_far run
completed_told m run h = ap (λ (r : Recorded). r.completed) h.recorded ∙ fresh_recorded (events_so_far run) (nothing_recorded run.op) refl refl

-- ---- one step more

pub step_follows : (m next : Interpreter) (run : RunSoFar) → HasReached m run → run.made < run.steps → HasStepped m (lang_step (code_of m) (state_of m)) next
    → HasReached next (record run { made = run.made + 1 })
step_follows m next run h below s = record {
  ready = ready_again m next h.ready s.items s.routines s.words (subst (IsGood (tree_of m)) (sym s.state) (subst (λ (c : Routines). IsGood (tree_of m) (lang_step c (state_of m)).state) (sym (same_code m h.ready)) (step_lawful (tree_of m) h.ready.lang (state_of m) h.ready.good).good));
  items = s.items ∙ h.items;
  state = s.state ∙ (λ i. (lang_step (code i) (h.state i)).state) ∙ sym (state_after_more machine run.made 1 begin);
  recorded = s.recorded ∙ (λ i. events_added (h.recorded i) (lang_step (code i) (h.state i)).shown)
      ∙ sym (events_append (nothing_recorded run.op) (events_so_far run) (lang_step (routines_of (seen_tree run.items)) (lang_run (seen_tree run.items) run.inputs run.made)).shown)
      ∙ ap (events_added (nothing_recorded run.op)) (sym more);
  within = omega (arith, below);
  left = omega (arith, h.left, s.left);
} where
  machine : SourceMachine
  machine = machine_of (routines_of (seen_tree run.items)) run.inputs

  begin : LangState
  begin = lang_start (routines_of (seen_tree run.items)) run.inputs

  code : code_of m ≡ routines_of (seen_tree run.items)
  code = same_code m h.ready ∙ ap (λ is. routines_of (seen_tree is)) h.items

  more : lang_events (seen_tree run.items) run.inputs (run.made + 1) ≡ events_so_far run ++ (lang_step (routines_of (seen_tree run.items)) (lang_run (seen_tree run.items) run.inputs run.made)).shown
  more = shown_from_more machine run.made 1 begin ∙ ap (λ (es : List (SourceEvent ℕ)). events_so_far run ++ es) (append-nil (lang_step (routines_of (seen_tree run.items)) (lang_run (seen_tree run.items) run.inputs run.made)).shown)

-- ---- the end

end_told : (m : Interpreter) (run : RunSoFar) → HasReached m run → finish_of m.end ≡ (lang_run (seen_tree run.items) run.inputs run.made).end
end_told m run h = ap (λ (s : LangState). s.end) h.state

reads_back : (e : SourceEnd) → e ≡ written_end (finish_of e)
reads_back ends.OutOfSteps = refl
reads_back ends.Halted = refl
reads_back (ends.Trap kind) = refl

pub end_is : (m : Interpreter) (run : RunSoFar) → HasReached m run → m.end ≡ end_so_far run
end_is m run h = reads_back m.end ∙ ap written_end (end_told m run h)

-- a run that has ended is the run of all steps
all_made : (m : Interpreter) (run : RunSoFar) → HasReached m run → is_some (finish_of m.end) ≡ true → HasReached m (record run { made = run.steps })
all_made m run h ended = by (finish_of m.end) refl ended where
  by : (e : Option Finish) → finish_of m.end ≡ e → is_some e ≡ true → HasReached m (record run { made = run.steps })
  by None is some = absurd (cc)
  by (Some why) is some =
      let within = h.within in
      let reach : run.made + (run.steps - run.made) ≡ run.steps = omega (arith, within) in
      let stays = ended_runs_stay (seen_tree run.items) run.inputs run.made (run.steps - run.made) why (sym (end_told m run h) ∙ is) in
      record {
        ready = h.ready;
        items = h.items;
        state = h.state ∙ sym stays.0 ∙ ap (lang_run (seen_tree run.items) run.inputs) reach;
        recorded = h.recorded ∙ ap (events_added (nothing_recorded run.op)) (sym stays.1 ∙ ap (lang_events (seen_tree run.items) run.inputs) reach);
        within = omega arith;
        left = omega arith;
      }

-- so is one whose steps are made
pub finished : (m : Interpreter) (run : RunSoFar) → HasReached m run → (run.steps ≤ run.made) ⊎ (is_some (finish_of m.end) ≡ true) → HasReached m (record run { made = run.steps })
finished m run h (inl past) = let within = h.within in subst (λ (n : ℕ). HasReached m (record run { made = n })) (let all : run.made ≡ run.steps = omega (arith, past, within) in all) h
finished m run h (inr ended) = all_made m run h ended
