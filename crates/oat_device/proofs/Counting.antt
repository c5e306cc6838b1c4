-- How many windows have sealed: those that are shelved, those that are due and the present one are all that a session calls for.
use Rattle.std.proofs.Common.{◌≡◌, ◌+◌, ◌-◌, ◌≤◌, ℕ, ℤ, Bool, true, false, cond, eqb, List, [], ◌∷◌, ◌++◌, length, length-append, map, Option, Some, None, Result, Ok, Err, refl, sym, ap, subst, arith}
use Rattle.std.specs.{Prelude.MatchOption, Prelude.MatchResult, Option.option_map}
use Rattle.std.proofs.lemmas.{Bool.ltb-true, Bool.ltb-false, Bool.false≢true, List.append-nil}
use Rattle.oat_measure.specs.Shelving.{Measured}
use Rattle.oat_journal.specs.{Body, Write, Image, MonitorCall, Opening, StopKind, Stage, State, unmeasured, measuring, sealed, before_window, inside_window, after_window, measured, opens}
use Rattle.oat_journal.specs.{Measurements, at_start, body_of, is_due, measured_on, measures, sealed_bodies, shelving, with_rest, with_state, Measured.Run, Measured.dev, Measured.run_until}
use Rattle.oat_journal.specs.{Measured.start_cells, Run.journal, Window.made_call}
use Rattle.oat_device.specs.DeviceRun.{CountsItsWindows, WindowsAreCounted}
use Rattle.oat_measure.specs.declared.call.MonitorCall.TheVariants as svc

-- how many windows are due behind the one of a number
abbrev due : Opening → Option ℕ → ℕ
due o serial = elim serial [ None ↦ 0 | Some number ↦ o.calls - (number + 1) ]

due-next : (o : Opening) (serial : Option ℕ) → is_due o serial ≡ true → due o (option_map (λ number. number + 1) serial) + 1 ≡ due o serial
due-next o None is = absurd (false≢true is)
due-next o (Some number) is = let below = ltb-true (number + 1) o.calls is in omega (arith, below)

due-none : (o : Opening) (serial : Option ℕ) → is_due o serial ≡ false → due o serial ≡ 0
due-none o None is = refl
due-none o (Some number) is = let past = ltb-false (number + 1) o.calls is in omega (arith, past)

-- ---- a call keeps the window's number

abbrev KeepsNumber : State → Result State StopKind → Type 0
KeepsNumber s result = MatchResult result (λ next. next.serial ≡ s.serial) (λ stop. Unit {0})

number-if : (t : Bool) (s a b : State) → a.serial ≡ s.serial → b.serial ≡ s.serial → (cond t a b).serial ≡ s.serial
number-if true s a b p q = p
number-if false s a b p q = q

before-number : (o : Opening) (s : State) (call : MonitorCall) → (before_window o s call).serial ≡ s.serial
before-number o s (svc.Begin op at) = number-if (opens o.op o.begin_at (svc.Begin op at)) s _ _ refl refl
before-number o s (svc.Define cell value) = refl
before-number o s _ = refl

after-number : (s : State) (call : MonitorCall) → (after_window s call).serial ≡ s.serial
after-number s (svc.Define cell value) = refl
after-number s _ = refl

end-number : (t : Bool) (s next : State) (stop : StopKind) → next.serial ≡ s.serial → KeepsNumber s (cond t (Ok next) (Err stop))
end-number true s next stop same = same
end-number false s next stop same = tt

inside-number : (o : Opening) (s : State) (call : MonitorCall) → KeepsNumber s (inside_window o s call)
inside-number o s (svc.Begin op at) = tt
inside-number o s (svc.End op) = end-number (eqb op o.op) s _ _ refl
inside-number o s (svc.Bit value) = refl
inside-number o s (svc.Target address) = refl
inside-number o s (svc.Return address) = refl
inside-number o s (svc.Define cell value) = refl
inside-number o s (svc.Use cell value) = refl

number-kept : (o : Opening) (s : State) (call : MonitorCall) (stage : Stage)
    → KeepsNumber s (elim stage [ unmeasured ↦ Ok (before_window o s call) | measuring ↦ inside_window o s call | sealed ↦ Ok (after_window s call) ])
number-kept o s call unmeasured = before-number o s call
number-kept o s call measuring = inside-number o s call
number-kept o s call sealed = after-number s call

-- ---- all windows of a session

abbrev AreAll : Opening → List Body → Option ℕ → Type 0
AreAll o shelved serial = length shelved + due o serial + 1 ≡ o.calls

record Counted (o : Opening) (m : Measurements) : Type 0 where
  all : AreAll o m.shelved m.state.serial
  last : m.state.stage ≡ sealed → is_due o m.state.serial ≡ false

counted-first : (o : Opening) (serial : Option ℕ) → MatchOption serial (o.calls ≡ 1) (λ number. (number ≡ 0) × (1 ≤ o.calls)) → AreAll o [] serial
counted-first o None one = omega (arith, one)
counted-first o (Some number) first = let zeroth = first.0 in let some = first.1 in omega (arith, zeroth, some)

settled-if : (o : Opening) (m : Measurements) (t : Bool) → is_due o m.state.serial ≡ t → AreAll o m.shelved m.state.serial → Counted o (cond t (shelving o m) m)
settled-if o m true is all =
    let next = due-next o m.state.serial is in
    let more = length-append m.shelved (body_of o m.state ∷ []) in record { all = omega (arith, all, next, more); last = λ h. absurd (cc) }
settled-if o m false is all = record { all = all; last = λ h. is }

settled-at : (o : Opening) (m : Measurements) (stage : Stage) → m.state.stage ≡ stage → AreAll o m.shelved m.state.serial
    → Counted o (elim stage [ unmeasured ↦ m | measuring ↦ m | sealed ↦ cond (is_due o m.state.serial) (shelving o m) m ])
settled-at o m unmeasured is all = record { all = all; last = λ h. absurd (cc) }
settled-at o m measuring is all = record { all = all; last = λ h. absurd (cc) }
settled-at o m sealed is all = settled-if o m (is_due o m.state.serial) refl all

state-counted : (o : Opening) (m : Measurements) (result : Result State StopKind) → KeepsNumber m.state result → Counted o m
    → MatchResult (with_state o m.shelved result) (Counted o) (λ stop. Unit {0})
state-counted o m (Ok next) same counted =
    settled-at o (record { shelved = m.shelved; state = next }) next.stage refl (subst (AreAll o m.shelved) (sym same) counted.all)
state-counted o m (Err stop) same counted = tt

call-counted : (o : Opening) (m : Measurements) (call : Option MonitorCall) → Counted o m → MatchResult (measured_on o m call) (Counted o) (λ stop. Unit {0})
call-counted o m None counted = counted
call-counted o m (Some call) counted = state-counted o m (measured o m.state (Some call)) (number-kept o m.state call m.state.stage) counted

rest-counted : (o : Opening) (m : Measurements) (result : Result Measurements StopKind) (rest : Measurements → Measured) → Counted o m
    → MatchResult result (Counted o) (λ stop. Unit {0}) → ((next : Measurements) → Counted o next → Counted o (rest next).measurements)
    → Counted o (with_rest m result rest).measurements
rest-counted o m (Ok next) rest counted to on = on next to
rest-counted o m (Err stop) rest counted to on = counted

calls-counted : (o : Opening) (m : Measurements) (calls : List (Option MonitorCall)) → Counted o m → Counted o (measures o m calls).measurements
unfolding measures
calls-counted o m [] counted = counted
calls-counted o m (call ∷ calls) counted =
    rest-counted o m (measured_on o m call) (λ next. measures o next calls) counted (call-counted o m call counted) (λ next to. calls-counted o next calls to)

-- ---- a run

run-counted : (image : Image) (o : Opening) (inputs : List ℤ) (writes : List Write) (n : ℕ) (measured : Measured) (stop : Option StopKind) → Counted o measured.measurements
    → Counted o (run_until image inputs writes n measured stop).measurements
run-counted image o inputs writes n measured None counted = counted
run-counted image o inputs writes n measured (Some stop) counted = counted

bodies-at : (o : Opening) (m : Measurements) (stage : Stage) → (stage ≡ sealed → ⊥) → m.shelved ++ (elim stage [ unmeasured ↦ [] | measuring ↦ [] | sealed ↦ body_of o m.state ∷ [] ]) ≡ m.shelved
bodies-at o m unmeasured open_still = append-nil m.shelved
bodies-at o m measuring open_still = append-nil m.shelved
bodies-at o m sealed open_still = absurd (open_still refl)

counts : (o : Opening) (run : Run) → Counted o run.measurements → CountsItsWindows o run
counts o run counted =
    let m = run.measurements in
    let all = counted.all in record {
      all = λ is.
          let none = due-none o m.state.serial (counted.last is) in
          let bodies : sealed_bodies o m ≡ m.shelved ++ body_of o m.state ∷ [] = ap (λ (stage : Stage). m.shelved ++ elim stage as (λ _. List Body) [ unmeasured ↦ [] | measuring ↦ [] | sealed ↦ body_of o m.state ∷ [] ]) is in
          let long = ap (λ (xs : List Body). length xs) bodies in
          let more = length-append m.shelved (body_of o m.state ∷ []) in
          omega (arith, all, none, long, more);
      fewer = λ open_still.
          let long = ap (λ (xs : List Body). length xs) (bodies-at o m m.state.stage open_still) in
          omega (arith, all, long);
    }

pub windows_are_counted : WindowsAreCounted
windows_are_counted image o inputs writes n first =
    let begun : Counted o (at_start o (start_cells image)) = record { all = counted-first o o.serial first; last = λ h. absurd (cc) } in
    let measured = measures o (at_start o (start_cells image)) (map made_call (journal image inputs writes n)) in
    counts o (dev image o inputs writes n) (run-counted image o inputs writes n measured measured.stop (calls-counted o (at_start o (start_cells image)) (map made_call (journal image inputs writes n)) begun))
