-- The windows of a session and its shelf of bodies, call by call.
use Rattle.std.proofs.Common.{◌≡◌, ◌+◌, ◌<◌, ◌⊎◌, ℕ, zero, suc, Bool, true, false, cond, ◌||◌, List, [], ◌∷◌, ◌++◌, length, slice_get, Option, Some, None, is_some, option_map, Result, Ok, refl, sym}
use Rattle.std.proofs.Common.{ap, subst, ◌∙◌, inl, inr, arith}
use Rattle.std.specs.List.{list_any}
use Rattle.std.proofs.lemmas.Bool.{lt-ltb}
use Rattle.oat_measure.specs.Shelving.{Measured}
use Rattle.oat_journal.specs.{Body, beyond, is_closed, MonitorCall, Opening, StopKind, Stage, State, after_window, before_window, inside_window, measured, measuring, sealed, unmeasured, opens, seals}
use Rattle.oat_journal.specs.{Measurements, body_of, is_due, measured_on, measures, sealed_bodies, settled, shelving, with_rest, with_state, Window.is_made}
use Rattle.oat_measure.specs.declared.call.MonitorCall.TheVariants as svc

abbrev pub Calls : Type 0
Calls = List (Option MonitorCall)

abbrev pub opening : Opening → Option MonitorCall → Bool
opening o c = is_made (opens o.op o.begin_at) c

abbrev pub sealing : Opening → Option MonitorCall → Bool
sealing o c = is_made (seals o.op) c

abbrev pub closed : Opening → ℕ → Calls → Bool
closed o s cs = is_closed (opening o) (sealing o) s cs

-- window s of what is behind an opening
abbrev pub closed_within : Opening → ℕ → Calls → Bool
closed_within o zero cs = list_any (sealing o) cs
closed_within o (suc s) cs = is_closed (opening o) (sealing o) s (beyond (sealing o) cs)

abbrev pub on_shelf : List Body → State → Measurements
on_shelf shelved s = record { shelved = shelved; state = s }

abbrev pub has_body : Opening → Measurements → ℕ → Bool
has_body o m i = is_some (slice_get (sealed_bodies o m) i)

-- the window behind s others is called for, where the present one has this number
abbrev IsDue : Opening → Option ℕ → ℕ → Type 0
IsDue o serial s = (s ≡ 0) ⊎ ((number : ℕ) × (option_map (λ (first : ℕ). first + s) serial ≡ Some number) × (number < o.calls))

-- never stopped; what is on the shelf stays there, and each further window that is called for has a body exactly where it passes a test
pub record Seals (o : Opening) (shelved : List Body) (serial : Option ℕ) (r : Measured) (test : ℕ → Bool) : Type 0 where
  pub stop : r.stop ≡ None
  pub before : (i : ℕ) → i < length shelved → has_body o r.measurements i ≡ true
  pub done : (s : ℕ) → IsDue o serial s → has_body o r.measurements (length shelved + s) ≡ test s

-- ---- places on the shelf

pub in-front : {X : Type 0} (xs ys : List X) (i : ℕ) → i < length xs → is_some (slice_get (xs ++ ys) i) ≡ true
in-front [] ys i low = absurd (omega arith)
in-front (x ∷ xs) ys zero low = refl
in-front (x ∷ xs) ys (suc i) low = in-front xs ys i (omega arith)

at-last : {X : Type 0} (xs : List X) (x : X) → is_some (slice_get (xs ++ x ∷ []) (length xs + 0)) ≡ true
at-last [] x = refl
at-last (y ∷ xs) x = let n : length (y ∷ xs) + 0 ≡ suc (length xs + 0) = omega arith in ap (λ (k : ℕ). is_some (slice_get (y ∷ (xs ++ x ∷ [])) k)) n ∙ at-last xs x

pub none-behind : {X : Type 0} (xs : List X) (s : ℕ) → is_some (slice_get (xs ++ []) (length xs + s)) ≡ false
none-behind [] s = refl
none-behind (x ∷ xs) s = let n : length (x ∷ xs) + s ≡ suc (length xs + s) = omega arith in ap (λ (k : ℕ). is_some (slice_get (x ∷ (xs ++ [])) k)) n ∙ none-behind xs s

-- ---- whether a further window is due

pub due-behind : (o : Opening) (serial : Option ℕ) (k : ℕ) → IsDue o serial (suc k) → IsDue o (option_map (λ (n : ℕ). n + 1) serial) k
due-behind o serial k (inl none) = absurd (omega (arith, none))
due-behind o None k (inr more) = absurd (let h : None ≡ Some more.0 = more.1 in cc)
due-behind o (Some first) k (inr more) =
    let n : (first + 1) + k ≡ first + suc k = omega arith in inr (more.0, ap Some n ∙ more.1, more.2)

none-due : (o : Opening) (serial : Option ℕ) (k : ℕ) → is_due o serial ≡ false → IsDue o serial (suc k) → ⊥
none-due o serial k last (inl none) = absurd (omega (arith, none))
none-due o None k last (inr more) = absurd (let h : None ≡ Some more.0 = more.1 in cc)
none-due o (Some first) k last (inr more) =
    let same : first + suc k ≡ more.0 = (let h : Some (first + suc k) ≡ Some more.0 = more.1 in cc) in
    let low : more.0 < o.calls = more.2 in
    absurd (let due : is_due o (Some first) ≡ true = lt-ltb (first + 1) o.calls (omega (arith, same, low)) in cc)

-- ---- stages

pub staged : (o : Opening) (s : State) (call : MonitorCall) (stage : Stage) → s.stage ≡ stage
    → measured o s (Some call) ≡ elim stage as (λ _. Result State StopKind) [ unmeasured ↦ Ok (before_window o s call) | measuring ↦ inside_window o s call | sealed ↦ Ok (after_window s call) ]
staged o s call stage is = ap (λ (g : Stage). elim g as (λ _. Result State StopKind) [ unmeasured ↦ Ok (before_window o s call) | measuring ↦ inside_window o s call | sealed ↦ Ok (after_window s call) ]) is

settled-at : (o : Opening) (m : Measurements) (stage : Stage) → m.state.stage ≡ stage
    → settled o m ≡ elim stage as (λ _. Measurements) [ unmeasured ↦ m | measuring ↦ m | sealed ↦ cond (is_due o m.state.serial) (shelving o m) m ]
settled-at o m stage is = ap (λ (g : Stage). elim g as (λ _. Measurements) [ unmeasured ↦ m | measuring ↦ m | sealed ↦ cond (is_due o m.state.serial) (shelving o m) m ]) is

pub bodies-at : (o : Opening) (m : Measurements) (stage : Stage) → m.state.stage ≡ stage
    → sealed_bodies o m ≡ m.shelved ++ elim stage as (λ _. List Body) [ unmeasured ↦ [] | measuring ↦ [] | sealed ↦ body_of o m.state ∷ [] ]
bodies-at o m stage is = ap (λ (g : Stage). m.shelved ++ elim g as (λ _. List Body) [ unmeasured ↦ [] | measuring ↦ [] | sealed ↦ body_of o m.state ∷ [] ]) is

-- ---- one call

pub behind : (o : Opening) (shelved : List Body) (serial : Option ℕ) (m next : Measurements) (c : Option MonitorCall) (cs : Calls) (test : ℕ → Bool) → measured_on o m c ≡ Ok next
    → Seals o shelved serial (measures o next cs) test → Seals o shelved serial (measures o m (c ∷ cs)) test
unfolding measures
behind o shelved serial m next c cs test to w =
    subst (λ (r : Result Measurements StopKind). Seals o shelved serial (with_rest m r (λ n. measures o n cs)) test) (sym to) (record { stop = w.stop; before = w.before; done = w.done })

pub retested : (o : Opening) (shelved : List Body) (serial : Option ℕ) (r : Measured) (t u : ℕ → Bool) → ((k : ℕ) → u k ≡ t k) → Seals o shelved serial r u → Seals o shelved serial r t
retested o shelved serial r t u same w = record { stop = w.stop; before = w.before; done = λ s due. w.done s due ∙ same s }

pub stays-unmeasured : (o : Opening) (shelved : List Body) (s next : State) (call : MonitorCall) → measured o s (Some call) ≡ Ok next → next.stage ≡ unmeasured → measured_on o (on_shelf shelved s) (Some call) ≡ Ok (on_shelf shelved next)
stays-unmeasured o shelved s next call to is = ap (with_state o shelved) to ∙ ap Ok (settled-at o (on_shelf shelved next) unmeasured is)

pub stays-measuring : (o : Opening) (shelved : List Body) (s next : State) (call : MonitorCall) → measured o s (Some call) ≡ Ok next → next.stage ≡ measuring → measured_on o (on_shelf shelved s) (Some call) ≡ Ok (on_shelf shelved next)
stays-measuring o shelved s next call to is = ap (with_state o shelved) to ∙ ap Ok (settled-at o (on_shelf shelved next) measuring is)

-- a call that is no opening, one that is, and one that seals nothing
pub skipped : (o : Opening) (c : Option MonitorCall) (cs : Calls) → opening o c ≡ false → (k : ℕ) → closed o k cs ≡ closed o k (c ∷ cs)
skipped o c cs off zero = ap (λ (b : Bool). list_any (sealing o) (cond b cs (beyond (opening o) cs))) (sym off)
skipped o c cs off (suc k) = ap (λ (b : Bool). closed o k (beyond (sealing o) (cond b cs (beyond (opening o) cs)))) (sym off)

pub opened : (o : Opening) (c : Option MonitorCall) (cs : Calls) → opening o c ≡ true → (k : ℕ) → closed_within o k cs ≡ closed o k (c ∷ cs)
opened o c cs on zero = ap (λ (b : Bool). list_any (sealing o) (cond b cs (beyond (opening o) cs))) (sym on)
opened o c cs on (suc k) = ap (λ (b : Bool). closed o k (beyond (sealing o) (cond b cs (beyond (opening o) cs)))) (sym on)

pub passed : (o : Opening) (c : Option MonitorCall) (cs : Calls) → sealing o c ≡ false → (k : ℕ) → closed_within o k cs ≡ closed_within o k (c ∷ cs)
passed o c cs off zero = ap (λ (b : Bool). b || list_any (sealing o) cs) (sym off)
passed o c cs off (suc k) = ap (λ (b : Bool). closed o k (cond b cs (beyond (sealing o) cs))) (sym off)

-- ---- behind the last window

pub record Over (o : Opening) (shelved : List Body) (r : Measured) : Type 0 where
  pub stop : r.stop ≡ None
  pub last : Body
  pub bodies : sealed_bodies o r.measurements ≡ shelved ++ last ∷ []

over-behind : (o : Opening) (shelved : List Body) (m next : Measurements) (c : Option MonitorCall) (cs : Calls) → measured_on o m c ≡ Ok next → Over o shelved (measures o next cs) → Over o shelved (measures o m (c ∷ cs))
unfolding measures
over-behind o shelved m next c cs to w =
    subst (λ (r : Result Measurements StopKind). Over o shelved (with_rest m r (λ n. measures o n cs))) (sym to) (record { stop = w.stop; last = w.last; bodies = w.bodies })

same-stage : (s : State) (call : MonitorCall) → (after_window s call).stage ≡ s.stage
same-stage s (svc.Define cell value) = refl
same-stage s _ = refl

same-serial : (s : State) (call : MonitorCall) → (after_window s call).serial ≡ s.serial
same-serial s (svc.Define cell value) = refl
same-serial s _ = refl

pub over : (o : Opening) (cs : Calls) (shelved : List Body) (s : State) → s.stage ≡ sealed → is_due o s.serial ≡ false → Over o shelved (measures o (on_shelf shelved s) cs)
unfolding measures
over o [] shelved s is last = record { stop = refl; last = body_of o s; bodies = bodies-at o (on_shelf shelved s) sealed is }
over o (None ∷ cs) shelved s is last = over-behind o shelved (on_shelf shelved s) (on_shelf shelved s) None cs refl (over o cs shelved s is last)
over o (Some call ∷ cs) shelved s is last =
    let next = after_window s call in
    let now : next.stage ≡ sealed = same-stage s call ∙ is in
    let due : is_due o next.serial ≡ false = ap (is_due o) (same-serial s call) ∙ last in
    over-behind o shelved (on_shelf shelved s) (on_shelf shelved next) (Some call) cs
    (ap (with_state o shelved) (staged o s call sealed is)
    ∙ ap Ok (settled-at o (on_shelf shelved next) sealed now ∙ ap (λ (t : Bool). cond t (shelving o (on_shelf shelved next)) (on_shelf shelved next)) due))
    (over o cs shelved next now due)

pub over-seals : (o : Opening) (c : Option MonitorCall) (cs : Calls) (shelved : List Body) (serial : Option ℕ) (r : Measured) → sealing o c ≡ true → is_due o serial ≡ false
    → Over o shelved r → Seals o shelved serial r (λ k. closed_within o k (c ∷ cs))
over-seals o c cs shelved serial r on last w = record {
  stop = w.stop;
  before = λ i low. ap (λ (bodies : List Body). is_some (slice_get bodies i)) w.bodies ∙ in-front shelved (w.last ∷ []) i low;
  done = elim [
    | zero ↦ λ due. ap (λ (bodies : List Body). is_some (slice_get bodies (length shelved + 0))) w.bodies ∙ at-last shelved w.last ∙ sym (ap (λ (b : Bool). b || list_any (sealing o) cs) on)
    | suc k ↦ λ due. absurd (none-due o serial k last due)
  ];
}
