-- One window: the state behind a list of calls, and that a sealed state holds the violation of the first use of its window that wasn't sound.
use Rattle.std.proofs.Common.{◌≡◌, ℕ, zero, suc, Bool, true, false, not, cond, ◌&&◌, eqb, List, [], ◌∷◌, ◌++◌, Option, Some, None, Result, Ok, Err, is_some, option_map, filter_map, All, refl, sym, ap}
use Rattle.std.proofs.Common.{subst, ◌∙◌, arith, eqb-true, append_assoc}
use Rattle.std.specs.List.{cons_option}
use Rattle.std.proofs.lemmas.List.Elements.{filter_map-append}
use Rattle.sha2.specs.Sha256.{sha256}
use Rattle.oat_measure.specs.{Violation, window_head, link, declared.opening.Opening.Opening, Monitor.opens, declared.call.MonitorCall.MonitorCall, Measurement.State, Measurement.Stage}
use Rattle.oat_measure.specs.{Measurement.unmeasured, Measurement.measuring, Measurement.sealed, Measurement.violated, Measurement.inside_window, Measurement.before_window, Measurement.after_window}
use Rattle.oat_measure.specs.{Measurement.measured, declared.stop.StopKind.StopKind, declared.stop.StopKind.TheVariants.Nested, declared.stop.StopKind.TheVariants.WrongEnd, Cells, defined, beyond}
use Rattle.oat_measure.specs.{through}
use Rattle.oat_journal.specs.{Window.opens_window, Window.seals_window, Window.up_to_window, Window.window, Uses.CheckedUse, Uses.Held, Uses.IsSound, Uses.define_of, Uses.last_of, Uses.defined_value}
use Rattle.oat_journal.specs.{Uses.uses_behind, Measured.first_unsound}
use Rattle.oat_measure.specs.declared.call.MonitorCall.TheVariants as svc

abbrev pub Calls : Type 0
Calls = List (Option MonitorCall)

-- a call as a call
abbrev pub same : Option MonitorCall → Option MonitorCall
same call = call

-- the checked uses in the first window of a list of calls
abbrev pub uses_among : Opening → Cells → Calls → List CheckedUse
uses_among o words calls =
    uses_behind words (up_to_window same o.op o.begin_at 0 calls) (window same o.op o.begin_at 0 calls)

-- ---- the state behind a list of calls, up to the first stop

abbrev after_call : State → Result State StopKind → (State → State) → State
after_call s (Ok next) rest = rest next
after_call s (Err stop) rest = s

unfoldable pub state_behind : Opening → State → Calls → State
state_behind o s [] = s
state_behind o s (call ∷ calls) = after_call s (measured o s call) (λ next. state_behind o next calls)

-- ---- what a cell holds: the value that it was last defined as

last_of-behind : (first value : ℕ) (values : List ℕ) → last_of first (values ++ value ∷ []) ≡ value
last_of-behind first value [] = refl
last_of-behind first value (v ∷ vs) = last_of-behind v value vs

append-none : (values : List ℕ) → values ++ [] ≡ values
append-none [] = refl
append-none (v ∷ vs) = ap (λ (rest : List ℕ). v ∷ rest) (append-none vs)

-- a call that defines nothing
value-other : (j word : ℕ) (before : Calls) (call : Option MonitorCall) → define_of j call ≡ None → defined_value word j (before ++ call ∷ []) ≡ defined_value word j before
value-other j word before call none =
    ap (last_of word) (filter_map-append (define_of j) before (call ∷ []) ∙ ap (λ (o : Option ℕ). filter_map (define_of j) before ++ cons_option o []) none ∙ append-none (filter_map (define_of j) before))

value-defined : (j word value : ℕ) (before : Calls) (call : Option MonitorCall) → define_of j call ≡ Some value → defined_value word j (before ++ call ∷ []) ≡ value
value-defined j word value before call some =
    ap (last_of word) (filter_map-append (define_of j) before (call ∷ []) ∙ ap (λ (o : Option ℕ). filter_map (define_of j) before ++ cons_option o []) some)
    ∙ last_of-behind word value (filter_map (define_of j) before)

map-same : (o : Option ℕ) (f g : ℕ → ℕ) → ((word : ℕ) → f word ≡ g word) → option_map f o ≡ option_map g o
map-same None f g h = refl
map-same (Some word) f g h = ap Some (h word)

pub held_other : (words : Cells) (before : Calls) (cells : Cells) (call : Option MonitorCall) → ((j : ℕ) → define_of j call ≡ None) → Held words before cells → Held words (before ++ call ∷ []) cells
unfolding Held
held_other words before cells call none held j =
    held j ∙ map-same (words j) _ _ (λ (word : ℕ). sym (value-other j word before call (none j)))

-- the cell that is defined, and the others
held-some : (words : Cells) (before : Calls) (cell value j : ℕ) → define_of j (Some (svc.Define cell value)) ≡ Some value → (o : Option ℕ)
    → cond (is_some (option_map (λ (word : ℕ). defined_value word j before) o)) (Some value) (option_map (λ (word : ℕ). defined_value word j before) o) ≡ option_map (λ (word : ℕ). defined_value word j (before ++ Some (svc.Define cell value) ∷ [])) o
held-some words before cell value j at None = refl
held-some words before cell value j at (Some word) = ap Some (sym (value-defined j word value before (Some (svc.Define cell value)) at))

held-at : (words : Cells) (before : Calls) (cells : Cells) (cell value j : ℕ) → Held words before cells → (t : Bool) → eqb j cell ≡ t
    → cond (t && is_some (cells j)) (Some value) (cells j) ≡ option_map (λ (word : ℕ). defined_value word j (before ++ Some (svc.Define cell value) ∷ [])) (words j)
unfolding Held
held-at words before cells cell value j held true is =
    subst (λ (o : Option ℕ). cond (is_some o) (Some value) o ≡ option_map (λ (word : ℕ). defined_value word j (before ++ Some (svc.Define cell value) ∷ [])) (words j)) (sym (held j))
    (held-some words before cell value j (ap (λ (t : Bool). cond t (Some value) None) is) (words j))
held-at words before cells cell value j held false is =
    held j ∙ map-same (words j) _ _ (λ (word : ℕ). sym (value-other j word before (Some (svc.Define cell value)) (ap (λ (t : Bool). cond t (Some value) None) is)))

pub held_is : (words : Cells) (before : Calls) (cells : Cells) → Held words before cells → (j : ℕ) → cells j ≡ option_map (λ (word : ℕ). defined_value word j before) (words j)
unfolding Held
held_is words before cells held j = held j

pub held_define : (words : Cells) (before : Calls) (cells : Cells) (cell value : ℕ) → Held words before cells → Held words (before ++ Some (svc.Define cell value) ∷ []) (defined cells cell value)
unfolding Held
held_define words before cells cell value held j = held-at words before cells cell value j held (eqb j cell) refl

-- ---- one call of the fold

pub step-ok : (o : Opening) (s : State) (call : Option MonitorCall) (next : State) (calls : Calls) → measured o s call ≡ Ok next → (state_behind o s (call ∷ calls)) ≡ (state_behind o next calls)
unfolding state_behind
step-ok o s call next calls h = ap (λ (r : Result State StopKind). after_call s r (λ (n : State). state_behind o n calls)) h

pub step-err : (o : Opening) (s : State) (call : Option MonitorCall) (stop : StopKind) (calls : Calls) → measured o s call ≡ Err stop → (state_behind o s (call ∷ calls)) ≡ s
unfolding state_behind
step-err o s call stop calls h = ap (λ (r : Result State StopKind). after_call s r (λ (n : State). state_behind o n calls)) h

pub no-calls : (o : Opening) (s : State) → (state_behind o s []) ≡ s
unfolding state_behind
no-calls o s = refl

abbrev by_stage : Opening → State → MonitorCall → Stage → Result State StopKind
by_stage o s call unmeasured = Ok (before_window o s call)
by_stage o s call measuring = inside_window o s call
by_stage o s call sealed = Ok (after_window s call)

pub staged : (o : Opening) (s : State) (call : MonitorCall) (stage : Stage) → s.stage ≡ stage → measured o s (Some call) ≡ by_stage o s call stage
staged o s call unmeasured is = ap (λ (stage : Stage). elim stage as (λ _. Result State StopKind) [ unmeasured ↦ Ok (before_window o s call) | measuring ↦ inside_window o s call | sealed ↦ Ok (after_window s call) ]) is
staged o s call measuring is = ap (λ (stage : Stage). elim stage as (λ _. Result State StopKind) [ unmeasured ↦ Ok (before_window o s call) | measuring ↦ inside_window o s call | sealed ↦ Ok (after_window s call) ]) is
staged o s call sealed is = ap (λ (stage : Stage). elim stage as (λ _. Result State StopKind) [ unmeasured ↦ Ok (before_window o s call) | measuring ↦ inside_window o s call | sealed ↦ Ok (after_window s call) ]) is

-- ---- behind the window

pub closed-stage : (s : State) (call : MonitorCall) → (after_window s call).stage ≡ s.stage
closed-stage s (svc.Define cell value) = refl
closed-stage s _ = refl

closed-violation : (s : State) (call : MonitorCall) → (after_window s call).violation ≡ s.violation
closed-violation s (svc.Define cell value) = refl
closed-violation s _ = refl

abbrev violation_in : State → Option Violation
violation_in s = s.violation

abbrev stage_of : State → Stage
stage_of s = s.stage

pub sealed-keeps : (o : Opening) (s : State) (calls : Calls) → s.stage ≡ sealed → (state_behind o s calls).violation ≡ s.violation
sealed-keeps o s [] is = ap violation_in (no-calls o s)
sealed-keeps o s (None ∷ calls) is = ap violation_in (step-ok o s None s calls refl) ∙ sealed-keeps o s calls is
sealed-keeps o s (Some call ∷ calls) is =
    ap violation_in (step-ok o s (Some call) (after_window s call) calls (staged o s call sealed is))
    ∙ sealed-keeps o (after_window s call) calls (closed-stage s call ∙ is) ∙ closed-violation s call

-- ---- inside the window

abbrev first_of : Option Violation → Option Violation → Option Violation
first_of (Some first) later = Some first
first_of None later = later

first_of-none : (v : Option Violation) → first_of v None ≡ v
first_of-none (Some first) = refl
first_of-none None = refl

abbrev checked : ℕ → ℕ → Calls → ℕ → CheckedUse
checked cell value before word = record { cell = cell; found = value; defined = defined_value word cell before }

-- a use of a cell that holds its defined value
use-first : (cell value : ℕ) (before : Calls) (v : Option Violation) (word : Option ℕ) (later : List CheckedUse)
    → first_of (violated v cell (option_map (λ (w : ℕ). defined_value w cell before) word) value) (first_unsound later)
    ≡ first_of v (first_unsound (cons_option (option_map (checked cell value before) word) later))
use-first cell value before (Some first) None later = refl
use-first cell value before (Some first) (Some word) later = refl
use-first cell value before None None later = refl
use-first cell value before None (Some word) later =
    let d = defined_value word cell before in
    elim (eqb d value) as (λ (t : Bool). first_of (cond t None (Some (record { cell = cell; expected = d; found = value }))) (first_unsound later) ≡ cond t (first_unsound later) (Some (record { cell = cell; expected = d; found = value }))) [
      | true ↦ refl
      | false ↦ refl
    ]

pub not-sealed : {A : Type 0} (stage : Stage) → stage ≡ measuring → stage ≡ sealed → A
not-sealed stage is h = absurd (let e : measuring ≡ sealed = sym is ∙ h in cc)

pub not-open : {A : Type 0} (stage : Stage) → stage ≡ unmeasured → stage ≡ sealed → A
not-open stage is h = absurd (let e : unmeasured ≡ sealed = sym is ∙ h in cc)

abbrev Exact : Opening → State → Calls → Option Violation → Type 0
Exact o s calls v = (state_behind o s calls).stage ≡ sealed → (state_behind o s calls).violation ≡ v

-- what holds behind a call holds of it
behind-call : (o : Opening) (s next : State) (call : Option MonitorCall) (calls : Calls) (v : Option Violation) → measured o s call ≡ Ok next → Exact o next calls v → Exact o s (call ∷ calls) v
behind-call o s next call calls v to rest h =
    let step = step-ok o s call next calls to in
    ap violation_in step ∙ rest (sym (ap stage_of step) ∙ h)

-- a stop inside the window seals nothing
at-stop : (o : Opening) (s : State) (call : Option MonitorCall) (stop : StopKind) (calls : Calls) (v : Option Violation) → s.stage ≡ measuring → measured o s call ≡ Err stop → Exact o s (call ∷ calls) v
at-stop o s call stop calls v is to h = not-sealed s.stage is (sym (ap stage_of (step-err o s call stop calls to)) ∙ h)

-- the violation of the window's rest
abbrev in_rest : Opening → Cells → Calls → State → Calls → Option Violation
in_rest o words before s calls = first_of s.violation (first_unsound (uses_behind words before (through (seals_window same o.op) calls)))

at-end : (o : Opening) (words : Cells) (before : Calls) (s : State) (op : ℕ) (calls : Calls) → s.stage ≡ measuring → (t : Bool) → eqb op o.op ≡ t
    → Exact o s (Some (svc.End op) ∷ calls) (first_of s.violation (first_unsound (uses_behind words before (cond t (Some (svc.End op) ∷ []) (Some (svc.End op) ∷ through (seals_window same o.op) calls)))))
at-end o words before s op calls is true end =
    behind-call o s (record s { stage = sealed }) (Some (svc.End op)) calls _
    (staged o s (svc.End op) measuring is ∙ ap (λ (t : Bool). cond t (Ok (record s { stage = sealed })) (Err WrongEnd)) end)
    (λ h. sealed-keeps o (record s { stage = sealed }) calls refl ∙ sym (first_of-none s.violation))
at-end o words before s op calls is false end =
    at-stop o s (Some (svc.End op)) WrongEnd calls _ is
    (staged o s (svc.End op) measuring is ∙ ap (λ (t : Bool). cond t (Ok (record s { stage = sealed })) (Err WrongEnd)) end)

inside-exact : (o : Opening) (words : Cells) (before : Calls) (s : State) (calls : Calls) → s.stage ≡ measuring → Held words before s.cells → Exact o s calls (in_rest o words before s calls)
inside-exact o words before s [] is held = λ h. not-sealed s.stage is (sym (ap stage_of (no-calls o s)) ∙ h)
inside-exact o words before s (None ∷ calls) is held =
    behind-call o s s None calls _ refl
    (inside-exact o words (before ++ None ∷ []) s calls is (held_other words before s.cells None (λ _. refl) held))
inside-exact o words before s (Some (svc.Begin op at) ∷ calls) is held =
    at-stop o s (Some (svc.Begin op at)) Nested calls _ is (staged o s (svc.Begin op at) measuring is)
inside-exact o words before s (Some (svc.End op) ∷ calls) is held =
    at-end o words before s op calls is (eqb op o.op) refl
inside-exact o words before s (Some (svc.Bit value) ∷ calls) is held =
    let call = Some (svc.Bit value) in
    behind-call o s (record s { bits = s.bits ++ not (eqb value 0) ∷ [] }) call calls _ (staged o s (svc.Bit value) measuring is)
    (inside-exact o words (before ++ call ∷ []) (record s { bits = s.bits ++ not (eqb value 0) ∷ [] }) calls is (held_other words before s.cells call (λ _. refl) held))
inside-exact o words before s (Some (svc.Target address) ∷ calls) is held =
    let call = Some (svc.Target address) in
    behind-call o s (record s { targets = s.targets ++ address ∷ [] }) call calls _ (staged o s (svc.Target address) measuring is)
    (inside-exact o words (before ++ call ∷ []) (record s { targets = s.targets ++ address ∷ [] }) calls is (held_other words before s.cells call (λ _. refl) held))
inside-exact o words before s (Some (svc.Return address) ∷ calls) is held =
    let call = Some (svc.Return address) in
    behind-call o s (record s { hash = sha256 (link s.hash address) }) call calls _ (staged o s (svc.Return address) measuring is)
    (inside-exact o words (before ++ call ∷ []) (record s { hash = sha256 (link s.hash address) }) calls is (held_other words before s.cells call (λ _. refl) held))
inside-exact o words before s (Some (svc.Define cell value) ∷ calls) is held =
    let call = Some (svc.Define cell value) in
    behind-call o s (record s { cells = defined s.cells cell value }) call calls _ (staged o s (svc.Define cell value) measuring is)
    (inside-exact o words (before ++ call ∷ []) (record s { cells = defined s.cells cell value }) calls is (held_define words before s.cells cell value held))
inside-exact o words before s (Some (svc.Use cell value) ∷ calls) is held =
    let call = Some (svc.Use cell value) in
    let next = record s { violation = violated s.violation cell (s.cells cell) value } in
    let later = uses_behind words (before ++ call ∷ []) (through (seals_window same o.op) calls) in
    let rest = inside-exact o words (before ++ call ∷ []) next calls is (held_other words before s.cells call (λ _. refl) held) in
    λ h. behind-call o s next call calls _ (staged o s (svc.Use cell value) measuring is) rest h
    ∙ ap (λ (c : Option ℕ). first_of (violated s.violation cell c value) (first_unsound later)) (held_is words before s.cells held cell)
    ∙ use-first cell value before s.violation (words cell) later

-- ---- before the window

abbrev in_window : Opening → Cells → Calls → Calls → Option Violation
in_window o words before calls =
    first_unsound (uses_behind words (before ++ up_to_window same o.op o.begin_at 0 calls) (window same o.op o.begin_at 0 calls))

-- a call that doesn't open the window
passes-by : (o : Opening) (words : Cells) (before : Calls) (call : Option MonitorCall) (calls : Calls)
    → in_window o words (before ++ call ∷ []) calls ≡ first_unsound (uses_behind words (before ++ call ∷ up_to_window same o.op o.begin_at 0 calls) (window same o.op o.begin_at 0 calls))
passes-by o words before call calls =
    ap (λ (front : Calls). first_unsound (uses_behind words front (window same o.op o.begin_at 0 calls))) (append_assoc before (call ∷ []) (up_to_window same o.op o.begin_at 0 calls))

abbrev Awaits : Opening → Cells → Calls → Type 0
Awaits o words calls =
    (before : Calls) (s : State) → s.stage ≡ unmeasured → s.violation ≡ None → Held words before s.cells → Exact o s calls (in_window o words before calls)

stays-out : (o : Opening) (words : Cells) (call : Option MonitorCall) (calls : Calls) → Awaits o words calls
    → (before : Calls) (s next : State) → measured o s call ≡ Ok next → next.stage ≡ unmeasured → next.violation ≡ None → Held words (before ++ call ∷ []) next.cells
    → Exact o s (call ∷ calls) (first_unsound (uses_behind words (before ++ call ∷ up_to_window same o.op o.begin_at 0 calls) (window same o.op o.begin_at 0 calls)))
stays-out o words call calls rest before s next to is none held =
    behind-call o s next call calls _ to
    (λ h. rest (before ++ call ∷ []) next is none held h ∙ passes-by o words before call calls)

at-begin : (o : Opening) (words : Cells) (op at : ℕ) (calls : Calls) → Awaits o words calls
    → (before : Calls) (s : State) → s.stage ≡ unmeasured → s.violation ≡ None → Held words before s.cells
    → (t : Bool) → (eqb op o.op && eqb at o.begin_at) ≡ t
    → Exact o s (Some (svc.Begin op at) ∷ calls) (first_unsound (uses_behind words
    (before ++ cond t (Some (svc.Begin op at) ∷ []) (Some (svc.Begin op at) ∷ up_to_window same o.op o.begin_at 0 calls))
    (through (seals_window same o.op) (cond t calls (beyond (opens_window same o.op o.begin_at) calls)))))
at-begin o words op at calls rest before s is none held true opens =
    let call = Some (svc.Begin op at) in
    let next = record s { stage = measuring; hash = sha256 (window_head o.nonce o.op o.digest s.serial) } in
    behind-call o s next call calls _
    (staged o s (svc.Begin op at) unmeasured is ∙ ap (λ (t : Bool). Ok (cond t next s)) opens)
    (λ h.
    inside-exact o words (before ++ call ∷ []) next calls refl (held_other words before s.cells call (λ _. refl) held) h
    ∙ ap (λ (v : Option Violation). first_of v (first_unsound (uses_behind words (before ++ call ∷ []) (through (seals_window same o.op) calls)))) none)
at-begin o words op at calls rest before s is none held false opens =
    let call = Some (svc.Begin op at) in
    let next = record s { stage = measuring; hash = sha256 (window_head o.nonce o.op o.digest s.serial) } in
    stays-out o words call calls rest before s s
    (staged o s (svc.Begin op at) unmeasured is ∙ ap (λ (t : Bool). Ok (cond t next s)) opens)
    is none (held_other words before s.cells call (λ _. refl) held)

pub awaits : (o : Opening) (words : Cells) (calls : Calls) → Awaits o words calls
awaits o words [] before s is none held = λ h. not-open s.stage is (sym (ap stage_of (no-calls o s)) ∙ h)
awaits o words (None ∷ calls) before s is none held =
    stays-out o words None calls (awaits o words calls) before s s refl is none (held_other words before s.cells None (λ _. refl) held)
awaits o words (Some (svc.Begin op at) ∷ calls) before s is none held =
    at-begin o words op at calls (awaits o words calls) before s is none held (eqb op o.op && eqb at o.begin_at) refl
awaits o words (Some (svc.Define cell value) ∷ calls) before s is none held =
    stays-out o words (Some (svc.Define cell value)) calls (awaits o words calls) before s (record s { cells = defined s.cells cell value })
    (staged o s (svc.Define cell value) unmeasured is) is none (held_define words before s.cells cell value held)
awaits o words (Some (svc.End op) ∷ calls) before s is none held =
    stays-out o words (Some (svc.End op)) calls (awaits o words calls) before s s
    (staged o s (svc.End op) unmeasured is) is none (held_other words before s.cells (Some (svc.End op)) (λ _. refl) held)
awaits o words (Some (svc.Bit value) ∷ calls) before s is none held =
    stays-out o words (Some (svc.Bit value)) calls (awaits o words calls) before s s
    (staged o s (svc.Bit value) unmeasured is) is none (held_other words before s.cells (Some (svc.Bit value)) (λ _. refl) held)
awaits o words (Some (svc.Target address) ∷ calls) before s is none held =
    stays-out o words (Some (svc.Target address)) calls (awaits o words calls) before s s
    (staged o s (svc.Target address) unmeasured is) is none (held_other words before s.cells (Some (svc.Target address)) (λ _. refl) held)
awaits o words (Some (svc.Return address) ∷ calls) before s is none held =
    stays-out o words (Some (svc.Return address)) calls (awaits o words calls) before s s
    (staged o s (svc.Return address) unmeasured is) is none (held_other words before s.cells (Some (svc.Return address)) (λ _. refl) held)
awaits o words (Some (svc.Use cell value) ∷ calls) before s is none held =
    stays-out o words (Some (svc.Use cell value)) calls (awaits o words calls) before s s
    (staged o s (svc.Use cell value) unmeasured is) is none (held_other words before s.cells (Some (svc.Use cell value)) (λ _. refl) held)

-- ---- the laws

map-id : (o : Option ℕ) → o ≡ option_map (λ (word : ℕ). word) o
map-id None = refl
map-id (Some word) = refl

pub held_first : (words : Cells) → Held words [] words
unfolding Held
held_first words j = map-id (words j)

when-none : (t : Bool) (others : Option Violation) (v : Violation) → cond t others (Some v) ≡ None → t ≡ true
when-none true others v h = refl
when-none false others v h = absurd (cc)

pub sound-uses : (checked : List CheckedUse) → first_unsound checked ≡ None → All IsSound checked
sound-uses [] h k d lt = absurd (omega arith)
sound-uses (use_ ∷ others) h zero d lt =
    sym (eqb-true use_.defined use_.found (when-none (eqb use_.defined use_.found) _ _ h))
sound-uses (use_ ∷ others) h (suc k) d lt =
    sound-uses others (subst (λ (t : Bool). cond t (first_unsound others) (Some (record { cell = use_.cell; expected = use_.defined; found = use_.found })) ≡ None) (when-none (eqb use_.defined use_.found) _ _ h) h) k d (omega arith)
