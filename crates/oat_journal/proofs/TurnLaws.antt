-- What a turn of a run does, and what so many of them come to.
use Rattle.std.proofs.Common.{◌≡◌, ◌+◌, ℕ, zero, suc, List, [], ◌∷◌, ◌++◌, Option, Some, None, refl, sym, ap, ◌∙◌, arith}
use Rattle.oat_case.specs.declared.case.Write.{Write}
use Rattle.oat_measure.specs.{Inst, Machine, instruction_at, declared.opening.Opening.Opening}
use Rattle.oat_journal.specs.{declared.end.DeviceEnd.DeviceEnd, Run.Running, Run.Entry, Run.entry, Run.found, Run.from_entry, Run.journal_from, Run.made_entry, Run.turn, Run.turns, Progress.Progress}
use Rattle.oat_journal.specs.{Progress.after_turns, Progress.going_on, Progress.measured_turn, TurnLaws.OneTurn, TurnLaws.EndedRunsRest, TurnLaws.AddsUp, TurnLaws.TurnsAdd, TurnLaws.TurnsMakeSteps}
use Rattle.oat_journal.specs.{TurnLaws.MeasuredTurnsFollow, TurnLaws.MeasuredEndsStay}
use Rattle.oat_journal.proofs.{Turns.turn-is, Progress.Ends, Progress.no-entries, Progress.no-entry, Progress.stays, Progress.turn-going, Progress.turns-stay}

pub turns_make_steps : TurnsMakeSteps
turns_make_steps code writes s going = turn-going code writes s going

pub one_turn : OneTurn
one_turn code writes s i going at = record {
  next = turn-is code writes s i going at;
  noted = λ on.
      let next = turn code writes s in
      ap (λ (o : Option Inst). made_entry o (found writes s) next.end next) at
      ∙ ap (λ (e : Option DeviceEnd). made_entry (Some i) (found writes s) e next) on;
}

-- ---- a run that ended

none-made : (o : Option Inst) (m : Machine) (next : Running) (why : DeviceEnd) (e : Option DeviceEnd) → e ≡ Some why → made_entry o m e next ≡ None
none-made None m next why e is = refl
none-made (Some i) m next why e is = ap (λ (x : Option DeviceEnd). made_entry (Some i) m x next) is

ended-entry : (code : List ℕ) (writes : List Write) (s : Running) → Ends s → entry code writes s ≡ None
ended-entry code writes s ends =
    none-made (instruction_at code s.machine.regs.pc) (found writes s) (turn code writes s) ends.why (turn code writes s).end
    (ap (λ (r : Running). r.end) (stays code writes s ends) ∙ ends.is)

pub ended_runs_rest : EndedRunsRest
ended_runs_rest code writes n s why is =
    let ends : Ends s = record { why = why; is = is } in
    record { same = turns-stay code writes n s ends; no_more = no-entries code writes n s (ended-entry code writes s ends) }

-- ---- turns behind turns

rests-behind : (code : List ℕ) (writes : List Write) (m n : ℕ) (s : Running) → Ends s → journal_from code writes n (turns code writes m s) ≡ []
rests-behind code writes m n s ends =
    ap (journal_from code writes n) (turns-stay code writes m s ends) ∙ no-entries code writes n s (ended-entry code writes s ends)

-- where there is no entry, none comes behind
none-behind : (code : List ℕ) (writes : List Write) (m n : ℕ) (s : Running) (end : Option DeviceEnd) → s.end ≡ end → entry code writes s ≡ None
    → journal_from code writes n (turns code writes m (turn code writes s)) ≡ []
none-behind code writes m n s (Some why) was none =
    let ends : Ends s = record { why = why; is = was } in
    ap (λ (r : Running). journal_from code writes n (turns code writes m r)) (stays code writes s ends) ∙ rests-behind code writes m n s ends
none-behind code writes m n s None was none =
    rests-behind code writes m n (turn code writes s)
    (no-entry code writes s was (instruction_at code s.machine.regs.pc) (turn code writes s).end refl refl none)

one-more : (m n : ℕ) → suc m + n ≡ suc (m + n)
one-more m n = omega arith

none-more : (n : ℕ) → 0 + n ≡ n
none-more n = omega arith

adds-entry : (code : List ℕ) (writes : List Write) (m n : ℕ) (s : Running) → AddsUp code writes m n (turn code writes s)
    → (e : Option Entry) → entry code writes s ≡ e → AddsUp code writes (suc m) n s
unfolding turns journal_from
adds-entry code writes m n s rest (Some e) is = record {
  run = ap (λ (k : ℕ). turns code writes k s) (one-more m n) ∙ rest.run;
  journal = ap (λ (k : ℕ). journal_from code writes k s) (one-more m n)
      ∙ ap (λ (x : Option Entry). from_entry x (journal_from code writes (m + n) (turn code writes s))) is
      ∙ ap (λ (js : List Entry). e ∷ js) rest.journal
      ∙ ap (λ (x : Option Entry). from_entry x (journal_from code writes m (turn code writes s)) ++ journal_from code writes n (turns code writes m (turn code writes s))) (sym is);
}
adds-entry code writes m n s rest None is = record {
  run = ap (λ (k : ℕ). turns code writes k s) (one-more m n) ∙ rest.run;
  journal = ap (λ (k : ℕ). journal_from code writes k s) (one-more m n)
      ∙ ap (λ (x : Option Entry). from_entry x (journal_from code writes (m + n) (turn code writes s))) is
      ∙ sym (none-behind code writes m n s s.end refl is)
      ∙ ap (λ (x : Option Entry). from_entry x (journal_from code writes m (turn code writes s)) ++ journal_from code writes n (turns code writes m (turn code writes s))) (sym is);
}

pub turns_add : TurnsAdd
unfolding turns journal_from
turns_add code writes zero n s = record {
  run = ap (λ (k : ℕ). turns code writes k s) (none-more n);
  journal = ap (λ (k : ℕ). journal_from code writes k s) (none-more n);
}
turns_add code writes (suc m) n s = adds-entry code writes m n s (turns_add code writes m n (turn code writes s)) (entry code writes s) refl

-- ---- measured turns

measured-next : (code : List ℕ) (writes : List Write) (o : Opening) (n : ℕ) (p : Progress)
    → after_turns code writes o (suc n) p ≡ going_on (after_turns code writes o n p).running.end (after_turns code writes o n p) (measured_turn code writes o (after_turns code writes o n p))
unfolding after_turns
measured-next code writes o zero p = refl
measured-next code writes o (suc n) p = measured-next code writes o n (going_on p.running.end p (measured_turn code writes o p))

pub measured_turns_follow : MeasuredTurnsFollow
measured_turns_follow code writes o n p =
    let count : n + 1 ≡ suc n = omega arith in
    ap (λ (k : ℕ). after_turns code writes o k p) count ∙ measured-next code writes o n p

pub measured_ends_stay : MeasuredEndsStay
measured_ends_stay code writes o n zero p why ends = let same : n + 0 ≡ n = omega arith in ap (λ (k : ℕ). after_turns code writes o k p) same
measured_ends_stay code writes o n (suc more) p why ends =
    let same : n + suc more ≡ suc (n + more) = omega arith in
    ap (λ (k : ℕ). after_turns code writes o k p) same
    ∙ measured-next code writes o (n + more) p
    ∙ ap (λ (q : Progress). going_on q.running.end q (measured_turn code writes o q)) (measured_ends_stay code writes o n more p why ends)
    ∙ ap (λ (e : Option DeviceEnd). going_on e (after_turns code writes o n p) (measured_turn code writes o (after_turns code writes o n p))) ends
