-- A session: what one call after the other leaves of its windows, and how their bodies lie on the shelf.
use Rattle.std.proofs.Common.{◌≡◌, ◌+◌, ◌<◌, ℕ, zero, suc, Bool, true, false, cond, List, [], ◌∷◌, ◌++◌, length, slice_get, Some, None, Result, Ok, Err, refl, sym, ap, subst, ◌∙◌, ◌⊎◌, inl, inr}
use Rattle.std.proofs.Common.{arith, append-nil, length-append}
use Rattle.oat_measure.specs.{Body, declared.opening.Opening.Opening, declared.call.MonitorCall.MonitorCall, declared.stop.StopKind.StopKind, Measurement.State, Measurement.Stage}
use Rattle.oat_measure.specs.{Measurement.unmeasured, Measurement.measuring, Measurement.sealed, Measurement.after_window, Measurement.measured, Shelving.Measurements, Shelving.sealed_bodies}
use Rattle.oat_measure.specs.{Shelving.body_of, Shelving.is_due, Shelving.measures, Shelving.settled, Shelving.shelving, Shelving.with_rest, Shelving.with_state}
use Rattle.oat_journal.proofs.Sealing.{Calls, state_behind, closed-stage, no-calls, staged, step-err, step-ok}
use Rattle.oat_measure.specs.declared.call.MonitorCall.TheVariants as svc

abbrev pub on_shelf : List Body → State → Measurements
on_shelf shelved s = record { shelved = shelved; state = s }

abbrev pub session : Opening → Measurements → Calls → Measurements
session o m calls = (measures o m calls).measurements

-- ---- one call

pub session-ok : (o : Opening) (shelved : List Body) (s next : State) (call : MonitorCall) (calls : Calls) → measured o s (Some call) ≡ Ok next
    → session o (on_shelf shelved s) (Some call ∷ calls) ≡ session o (settled o (on_shelf shelved next)) calls
unfolding measures
session-ok o shelved s next call calls to =
    ap (λ (r : Result State StopKind). (with_rest (on_shelf shelved s) (with_state o shelved r) (λ (n : Measurements). measures o n calls)).measurements) to

pub session-err : (o : Opening) (shelved : List Body) (s : State) (call : MonitorCall) (stop : StopKind) (calls : Calls) → measured o s (Some call) ≡ Err stop
    → session o (on_shelf shelved s) (Some call ∷ calls) ≡ on_shelf shelved s
unfolding measures
session-err o shelved s call stop calls to =
    ap (λ (r : Result State StopKind). (with_rest (on_shelf shelved s) (with_state o shelved r) (λ (n : Measurements). measures o n calls)).measurements) to

pub session-skip : (o : Opening) (m : Measurements) (calls : Calls) → session o m (None ∷ calls) ≡ session o m calls
unfolding measures
session-skip o m calls = refl

pub session-none : (o : Opening) (m : Measurements) → session o m [] ≡ m
unfolding measures
session-none o m = refl

-- ---- whether a window is sealed, and whether a further one is due

pub is-sealed : (stage : Stage) → (stage ≡ sealed) ⊎ (stage ≡ sealed → ⊥)
is-sealed unmeasured = inr (λ h. absurd (cc))
is-sealed measuring = inr (λ h. absurd (cc))
is-sealed sealed = inl refl

settled-at : (o : Opening) (m : Measurements) (stage : Stage) → m.state.stage ≡ stage → (stage ≡ sealed → ⊥) → settled o m ≡ m
settled-at o m unmeasured is unsealed = ap (λ (stage : Stage). elim stage as (λ _. Measurements) [ unmeasured ↦ m | measuring ↦ m | sealed ↦ cond (is_due o m.state.serial) (shelving o m) m ]) is
settled-at o m measuring is unsealed = ap (λ (stage : Stage). elim stage as (λ _. Measurements) [ unmeasured ↦ m | measuring ↦ m | sealed ↦ cond (is_due o m.state.serial) (shelving o m) m ]) is
settled-at o m sealed is unsealed = absurd (unsealed refl)

pub settled-open : (o : Opening) (m : Measurements) → (m.state.stage ≡ sealed → ⊥) → settled o m ≡ m
settled-open o m unsealed = settled-at o m m.state.stage refl unsealed

pub settled-sealed : (o : Opening) (m : Measurements) (due : Bool) → m.state.stage ≡ sealed → is_due o m.state.serial ≡ due → settled o m ≡ cond due (shelving o m) m
settled-sealed o m due is was =
    ap (λ (stage : Stage). elim stage as (λ _. Measurements) [ unmeasured ↦ m | measuring ↦ m | sealed ↦ cond (is_due o m.state.serial) (shelving o m) m ]) is
    ∙ ap (λ (t : Bool). cond t (shelving o m) m) was

bodies-at : (o : Opening) (m : Measurements) (stage : Stage) → m.state.stage ≡ stage → sealed_bodies o m ≡ m.shelved ++ elim stage as (λ _. List Body) [ unmeasured ↦ [] | measuring ↦ [] | sealed ↦ body_of o m.state ∷ [] ]
bodies-at o m stage is = ap (λ (g : Stage). m.shelved ++ elim g as (λ _. List Body) [ unmeasured ↦ [] | measuring ↦ [] | sealed ↦ body_of o m.state ∷ [] ]) is

open-bodies : (o : Opening) (m : Measurements) (stage : Stage) → m.state.stage ≡ stage → (stage ≡ sealed → ⊥) → sealed_bodies o m ≡ m.shelved
open-bodies o m unmeasured is unsealed = bodies-at o m unmeasured is ∙ append-nil m.shelved
open-bodies o m measuring is unsealed = bodies-at o m measuring is ∙ append-nil m.shelved
open-bodies o m sealed is unsealed = absurd (unsealed refl)

pub bodies-open : (o : Opening) (m : Measurements) → (m.state.stage ≡ sealed → ⊥) → sealed_bodies o m ≡ m.shelved
bodies-open o m unsealed = open-bodies o m m.state.stage refl unsealed

pub bodies-sealed : (o : Opening) (m : Measurements) → m.state.stage ≡ sealed → sealed_bodies o m ≡ m.shelved ++ body_of o m.state ∷ []
bodies-sealed o m is = bodies-at o m sealed is

-- ---- places on the shelf

get-before : {X : Type 0} (xs ys : List X) (i : ℕ) → i < length xs → slice_get (xs ++ ys) i ≡ slice_get xs i
get-before [] ys i low = absurd (omega arith)
get-before (x ∷ xs) ys zero low = refl
get-before (x ∷ xs) ys (suc i) low = get-before xs ys i (omega arith)

pub get-last : {X : Type 0} (xs : List X) (x : X) → slice_get (xs ++ x ∷ []) (length xs) ≡ Some x
get-last [] x = refl
get-last (y ∷ xs) x = get-last xs x

pub get-beyond : {X : Type 0} (xs : List X) (i : ℕ) → slice_get xs (length xs + i) ≡ None
get-beyond [] i = refl
get-beyond (x ∷ xs) i =
    let n : length (x ∷ xs) + i ≡ suc (length xs + i) = omega arith in
    ap (slice_get (x ∷ xs)) n ∙ get-beyond xs i

-- a body that lies on the shelf stays where it is

stays-settled : (o : Opening) (shelved : List Body) (next : State) (i : ℕ) → i < length shelved
    → (i < length (settled o (on_shelf shelved next)).shelved) × (slice_get (settled o (on_shelf shelved next)).shelved i ≡ slice_get shelved i)
stays-settled o shelved next i low = elim (is-sealed next.stage) [
  | inr unsealed ↦
      let m : settled o (on_shelf shelved next) ≡ on_shelf shelved next = settled-open o (on_shelf shelved next) unsealed in
      subst (λ (n : Measurements). (i < length n.shelved) × (slice_get n.shelved i ≡ slice_get shelved i)) (sym m) (low, refl)
  | inl is ↦ stays-due (is_due o next.serial) (settled-sealed o (on_shelf shelved next) (is_due o next.serial) is refl)
] where
  stays-due : (due : Bool) → settled o (on_shelf shelved next) ≡ cond due (shelving o (on_shelf shelved next)) (on_shelf shelved next)
      → (i < length (settled o (on_shelf shelved next)).shelved) × (slice_get (settled o (on_shelf shelved next)).shelved i ≡ slice_get shelved i)
  stays-due false m = subst (λ (n : Measurements). (i < length n.shelved) × (slice_get n.shelved i ≡ slice_get shelved i)) (sym m) (low, refl)
  stays-due true m =
      let long = length-append shelved (body_of o next ∷ []) in
      subst (λ (n : Measurements). (i < length n.shelved) × (slice_get n.shelved i ≡ slice_get shelved i)) (sym m) (omega arith, get-before shelved (body_of o next ∷ []) i low)

pub shelf-stays : (o : Opening) (calls : Calls) (shelved : List Body) (s : State) (i : ℕ) → i < length shelved → slice_get (sealed_bodies o (session o (on_shelf shelved s) calls)) i ≡ slice_get shelved i
shelf-stays o [] shelved s i low =
    ap (λ (m : Measurements). slice_get (sealed_bodies o m) i) (session-none o (on_shelf shelved s)) ∙ get-before shelved _ i low
shelf-stays o (None ∷ calls) shelved s i low =
    ap (λ (m : Measurements). slice_get (sealed_bodies o m) i) (session-skip o (on_shelf shelved s) calls) ∙ shelf-stays o calls shelved s i low
shelf-stays o (Some call ∷ calls) shelved s i low = by (measured o s (Some call)) refl (λ later t k few. shelf-stays o calls later t k few) where
  by : (r : Result State StopKind) → measured o s (Some call) ≡ r
      → ((later : List Body) (t : State) (k : ℕ) → k < length later → slice_get (sealed_bodies o (session o (on_shelf later t) calls)) k ≡ slice_get later k)
      → slice_get (sealed_bodies o (session o (on_shelf shelved s) (Some call ∷ calls))) i ≡ slice_get shelved i
  by (Err stop) to rest =
      ap (λ (m : Measurements). slice_get (sealed_bodies o m) i) (session-err o shelved s call stop calls to) ∙ get-before shelved _ i low
  by (Ok next) to rest =
      let m : Measurements = settled o (on_shelf shelved next) in
      let one = stays-settled o shelved next i low in
      ap (λ (n : Measurements). slice_get (sealed_bodies o n) i) (session-ok o shelved s next call calls to)
      ∙ (rest m.shelved m.state i one.0 ∙ one.1)

-- ---- where no window is sealed

pub sealed-stays : (o : Opening) (calls : Calls) (s : State) → s.stage ≡ sealed → (state_behind o s calls).stage ≡ sealed
sealed-stays o [] s is = ap (λ (t : State). t.stage) (no-calls o s) ∙ is
sealed-stays o (None ∷ calls) s is = ap (λ (t : State). t.stage) (step-ok o s None s calls refl) ∙ sealed-stays o calls s is
sealed-stays o (Some call ∷ calls) s is =
    ap (λ (t : State). t.stage) (step-ok o s (Some call) (after_window s call) calls (staged o s call sealed is))
    ∙ sealed-stays o calls (after_window s call) (closed-stage s call ∙ is)

-- the session goes on with the one window that is unsealed
pub stays-open : (o : Opening) (calls : Calls) (shelved : List Body) (s : State) → ((state_behind o s calls).stage ≡ sealed → ⊥) → session o (on_shelf shelved s) calls ≡ on_shelf shelved (state_behind o s calls)
stays-open o [] shelved s unsealed = session-none o (on_shelf shelved s) ∙ ap (on_shelf shelved) (sym (no-calls o s))
stays-open o (None ∷ calls) shelved s unsealed =
    let step = step-ok o s None s calls refl in
    session-skip o (on_shelf shelved s) calls
    ∙ (stays-open o calls shelved s (λ h. unsealed (ap (λ (t : State). t.stage) step ∙ h)) ∙ ap (on_shelf shelved) (sym step))
stays-open o (Some call ∷ calls) shelved s unsealed = by (measured o s (Some call)) refl (λ next later. stays-open o calls shelved next later) where
  by : (r : Result State StopKind) → measured o s (Some call) ≡ r
      → ((next : State) → ((state_behind o next calls).stage ≡ sealed → ⊥) → session o (on_shelf shelved next) calls ≡ on_shelf shelved (state_behind o next calls))
      → session o (on_shelf shelved s) (Some call ∷ calls) ≡ on_shelf shelved (state_behind o s (Some call ∷ calls))
  by (Err stop) to goes = session-err o shelved s call stop calls to ∙ ap (on_shelf shelved) (sym (step-err o s (Some call) stop calls to))
  by (Ok next) to goes =
      let step = step-ok o s (Some call) next calls to in
      let rest : (state_behind o next calls).stage ≡ sealed → ⊥ = λ h. unsealed (ap (λ (t : State). t.stage) step ∙ h) in
      session-ok o shelved s next call calls to
      ∙ (ap (λ (m : Measurements). session o m calls) (settled-open o (on_shelf shelved next) (λ is. rest (sealed-stays o calls next is)))
      ∙ (goes next rest ∙ ap (on_shelf shelved) (sym step)))

pub closed-serial : (s : State) (call : MonitorCall) → (after_window s call).serial ≡ s.serial
closed-serial s (svc.Define cell value) = refl
closed-serial s _ = refl

-- the last window stays sealed
pub stays-sealed : (o : Opening) (calls : Calls) (shelved : List Body) (s : State) → s.stage ≡ sealed → is_due o s.serial ≡ false → session o (on_shelf shelved s) calls ≡ on_shelf shelved (state_behind o s calls)
stays-sealed o [] shelved s is last = session-none o (on_shelf shelved s) ∙ ap (on_shelf shelved) (sym (no-calls o s))
stays-sealed o (None ∷ calls) shelved s is last =
    session-skip o (on_shelf shelved s) calls ∙ (stays-sealed o calls shelved s is last ∙ ap (on_shelf shelved) (sym (step-ok o s None s calls refl)))
stays-sealed o (Some call ∷ calls) shelved s is last =
    let next = after_window s call in
    let to = staged o s call sealed is in
    let now : next.stage ≡ sealed = closed-stage s call ∙ is in
    let due : is_due o next.serial ≡ false = ap (is_due o) (closed-serial s call) ∙ last in
    session-ok o shelved s next call calls to
    ∙ (ap (λ (m : Measurements). session o m calls) (settled-sealed o (on_shelf shelved next) false now due)
    ∙ (stays-sealed o calls shelved next now due ∙ ap (on_shelf shelved) (sym (step-ok o s (Some call) next calls to))))
