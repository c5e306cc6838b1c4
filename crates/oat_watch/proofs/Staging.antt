-- What a monitor call makes of the stage of a session: whether it opens a window or seals one.
use Rattle.std.proofs.Common.{◌≡◌, ◌∙◌, ◌+◌, ℕ, Bool, true, false, cond, eqb, ◌∷◌, [], length, length-append, Option, Some, None, Result, Ok, Err, refl, sym, ap}
use Rattle.oat_attest.specs.{MonitorCall, Opening, StopKind, Stage, State, after_window, before_window, inside_window, measuring, sealed, unmeasured, opens, seals, Measurements, body_of, is_due}
use Rattle.oat_attest.specs.{measured_on, settled, shelving, with_state, is_made}
use Rattle.oat_attest.specs.svc as svc

-- how a session goes on from one stage to the next, with the call that it measures
pub data Turn (o : Opening) (m next : Measurements) (call : Option MonitorCall) : Type 0 where
  stays_out : m.state.stage ≡ unmeasured → next.state.stage ≡ unmeasured → length next.shelved ≡ length m.shelved → is_made (opens o.op o.begin_at) call ≡ false → Turn o m next call
  opens_window : m.state.stage ≡ unmeasured → next.state.stage ≡ measuring → length next.shelved ≡ length m.shelved → is_made (opens o.op o.begin_at) call ≡ true → Turn o m next call
  stays_in : m.state.stage ≡ measuring → next.state.stage ≡ measuring → length next.shelved ≡ length m.shelved → is_made (seals o.op) call ≡ false → Turn o m next call
  seals_due : m.state.stage ≡ measuring → next.state.stage ≡ unmeasured → length next.shelved ≡ length m.shelved + 1 → is_made (seals o.op) call ≡ true → Turn o m next call
  seals_last : m.state.stage ≡ measuring → next.state.stage ≡ sealed → length next.shelved ≡ length m.shelved → is_due o next.state.serial ≡ false → is_made (seals o.op) call ≡ true → Turn o m next call
  stays_after : m.state.stage ≡ sealed → next.state.stage ≡ sealed → length next.shelved ≡ length m.shelved → is_due o next.state.serial ≡ is_due o m.state.serial → Turn o m next call

same-ok : {X E : Type 0} {x y : X} → ◌≡◌ {A = Result X E} (Ok x) (Ok y) → x ≡ y
same-ok h = cc

abbrev at_stage : Opening → Measurements → Stage → Measurements
at_stage o m stage = elim stage [ unmeasured ↦ m | measuring ↦ m | sealed ↦ cond (is_due o m.state.serial) (shelving o m) m ]

settled-by : (o : Opening) (m : Measurements) (stage : Stage) → m.state.stage ≡ stage → settled o m ≡ at_stage o m stage
settled-by o m stage is = ap (at_stage o m) is

-- the state that a call leaves, settled
abbrev Leaves : Opening → Measurements → Measurements → State → Type 0
Leaves o m next s = settled o (record { shelved = m.shelved; state = s }) ≡ next

stays-unmeasured : (o : Opening) (m next : Measurements) (call : MonitorCall) (s : State) → m.state.stage ≡ unmeasured → s.stage ≡ unmeasured → is_made (opens o.op o.begin_at) (Some call) ≡ false → Leaves o m next s → Turn o m next (Some call)
stays-unmeasured o m next call s was is none leaves =
    let same : record { shelved = m.shelved; state = s } ≡ next = sym (settled-by o (record { shelved = m.shelved; state = s }) unmeasured is) ∙ leaves in
    stays_out was (ap (λ (n : Measurements). n.state.stage) (sym same) ∙ is) (ap (λ (n : Measurements). length n.shelved) (sym same)) none

opens-now : (o : Opening) (m next : Measurements) (call : MonitorCall) (s : State) → m.state.stage ≡ unmeasured → s.stage ≡ measuring → is_made (opens o.op o.begin_at) (Some call) ≡ true → Leaves o m next s → Turn o m next (Some call)
opens-now o m next call s was is one leaves =
    let same : record { shelved = m.shelved; state = s } ≡ next = sym (settled-by o (record { shelved = m.shelved; state = s }) measuring is) ∙ leaves in
    opens_window was (ap (λ (n : Measurements). n.state.stage) (sym same) ∙ is) (ap (λ (n : Measurements). length n.shelved) (sym same)) one

begins-turn : (o : Opening) (m next : Measurements) (call : MonitorCall) (b : Bool) (s : State) → m.state.stage ≡ unmeasured → s.stage ≡ measuring → is_made (opens o.op o.begin_at) (Some call) ≡ b
    → Leaves o m next (cond b s m.state) → Turn o m next (Some call)
begins-turn o m next call true s was is made leaves = opens-now o m next call s was is made leaves
begins-turn o m next call false s was is made leaves = stays-unmeasured o m next call m.state was was made leaves

before-turn : (o : Opening) (m next : Measurements) (call : MonitorCall) → m.state.stage ≡ unmeasured → Leaves o m next (before_window o m.state call) → Turn o m next (Some call)
before-turn o m next (svc.Begin op at) was leaves = begins-turn o m next (svc.Begin op at) (opens o.op o.begin_at (svc.Begin op at)) _ was refl refl leaves
before-turn o m next (svc.End op) was leaves = stays-unmeasured o m next (svc.End op) m.state was was refl leaves
before-turn o m next (svc.Bit value) was leaves = stays-unmeasured o m next (svc.Bit value) m.state was was refl leaves
before-turn o m next (svc.Target address) was leaves = stays-unmeasured o m next (svc.Target address) m.state was was refl leaves
before-turn o m next (svc.Return address) was leaves = stays-unmeasured o m next (svc.Return address) m.state was was refl leaves
before-turn o m next (svc.Define cell value) was leaves = stays-unmeasured o m next (svc.Define cell value) (before_window o m.state (svc.Define cell value)) was was refl leaves
before-turn o m next (svc.Use cell value) was leaves = stays-unmeasured o m next (svc.Use cell value) m.state was was refl leaves

stays-measuring : (o : Opening) (m next : Measurements) (call : MonitorCall) (s : State) → m.state.stage ≡ measuring → s.stage ≡ measuring → is_made (seals o.op) (Some call) ≡ false → Leaves o m next s → Turn o m next (Some call)
stays-measuring o m next call s was is none leaves =
    let same : record { shelved = m.shelved; state = s } ≡ next = sym (settled-by o (record { shelved = m.shelved; state = s }) measuring is) ∙ leaves in
    stays_in was (ap (λ (n : Measurements). n.state.stage) (sym same) ∙ is) (ap (λ (n : Measurements). length n.shelved) (sym same)) none

-- a sealed window goes to the shelf where a further one is due
seals-turn : (o : Opening) (m next : Measurements) (call : MonitorCall) (due : Bool) (s : State) → m.state.stage ≡ measuring → s.stage ≡ sealed → is_due o s.serial ≡ due → is_made (seals o.op) (Some call) ≡ true
    → Leaves o m next s → Turn o m next (Some call)
seals-turn o m next call true s was is due one leaves =
    let here : Measurements = record { shelved = m.shelved; state = s } in
    let same : shelving o here ≡ next = sym (settled-by o here sealed is ∙ ap (λ (b : Bool). cond b (shelving o here) here) due) ∙ leaves in
    seals_due was (ap (λ (n : Measurements). n.state.stage) (sym same)) (ap (λ (n : Measurements). length n.shelved) (sym same) ∙ length-append m.shelved (body_of o s ∷ [])) one
seals-turn o m next call false s was is due one leaves =
    let here : Measurements = record { shelved = m.shelved; state = s } in
    let same : here ≡ next = sym (settled-by o here sealed is ∙ ap (λ (b : Bool). cond b (shelving o here) here) due) ∙ leaves in
    seals_last was (ap (λ (n : Measurements). n.state.stage) (sym same) ∙ is) (ap (λ (n : Measurements). length n.shelved) (sym same))
    (ap (λ (n : Measurements). is_due o n.state.serial) (sym same) ∙ due) one

-- what a call inside the window leaves, settled
abbrev Ends : Opening → Measurements → Measurements → Result State StopKind → Type 0
Ends o m next result = with_state o m.shelved result ≡ Ok next

end-turn : (o : Opening) (m next : Measurements) (op : ℕ) (b : Bool) (s : State) (stop : StopKind) → m.state.stage ≡ measuring → s.stage ≡ sealed → eqb op o.op ≡ b → Ends o m next (cond b (Ok s) (Err stop)) → Turn o m next (Some (svc.End op))
end-turn o m next op true s stop was is same ends = seals-turn o m next (svc.End op) (is_due o s.serial) s was is refl same (same-ok ends)
end-turn o m next op false s stop was is same ends = absurd (let q : Err stop ≡ Ok next = ends in cc)

inside-turn : (o : Opening) (m next : Measurements) (call : MonitorCall) → m.state.stage ≡ measuring → Ends o m next (inside_window o m.state call) → Turn o m next (Some call)
inside-turn o m next (svc.Begin op at) was ends = absurd (cc)
inside-turn o m next (svc.End op) was ends = end-turn o m next op (eqb op o.op) (record m.state { stage = sealed }) _ was refl refl ends
inside-turn o m next (svc.Bit value) was ends = stays-measuring o m next (svc.Bit value) _ was was refl (same-ok ends)
inside-turn o m next (svc.Target address) was ends = stays-measuring o m next (svc.Target address) _ was was refl (same-ok ends)
inside-turn o m next (svc.Return address) was ends = stays-measuring o m next (svc.Return address) _ was was refl (same-ok ends)
inside-turn o m next (svc.Define cell value) was ends = stays-measuring o m next (svc.Define cell value) _ was was refl (same-ok ends)
inside-turn o m next (svc.Use cell value) was ends = stays-measuring o m next (svc.Use cell value) _ was was refl (same-ok ends)

stays-sealed : (o : Opening) (m next : Measurements) (call : MonitorCall) (s : State) → m.state.stage ≡ sealed → s.stage ≡ sealed → s.serial ≡ m.state.serial → is_due o m.state.serial ≡ false → Leaves o m next s → Turn o m next (Some call)
stays-sealed o m next call s was is serial last leaves =
    let here : Measurements = record { shelved = m.shelved; state = s } in
    let due : is_due o s.serial ≡ false = ap (is_due o) serial ∙ last in
    let same : here ≡ next = sym (settled-by o here sealed is ∙ ap (λ (b : Bool). cond b (shelving o here) here) due) ∙ leaves in
    stays_after was (ap (λ (n : Measurements). n.state.stage) (sym same) ∙ is) (ap (λ (n : Measurements). length n.shelved) (sym same))
    (ap (λ (n : Measurements). is_due o n.state.serial) (sym same) ∙ ap (is_due o) serial)

after-turn : (o : Opening) (m next : Measurements) (call : MonitorCall) → m.state.stage ≡ sealed → is_due o m.state.serial ≡ false → Leaves o m next (after_window m.state call) → Turn o m next (Some call)
after-turn o m next (svc.Begin op at) was last leaves = stays-sealed o m next (svc.Begin op at) m.state was was refl last leaves
after-turn o m next (svc.End op) was last leaves = stays-sealed o m next (svc.End op) m.state was was refl last leaves
after-turn o m next (svc.Bit value) was last leaves = stays-sealed o m next (svc.Bit value) m.state was was refl last leaves
after-turn o m next (svc.Target address) was last leaves = stays-sealed o m next (svc.Target address) m.state was was refl last leaves
after-turn o m next (svc.Return address) was last leaves = stays-sealed o m next (svc.Return address) m.state was was refl last leaves
after-turn o m next (svc.Define cell value) was last leaves = stays-sealed o m next (svc.Define cell value) (after_window m.state (svc.Define cell value)) was was refl last leaves
after-turn o m next (svc.Use cell value) was last leaves = stays-sealed o m next (svc.Use cell value) m.state was was refl last leaves

-- ---- any instruction

abbrev by_stage : Opening → State → MonitorCall → Stage → Result State StopKind
by_stage o s call stage = elim stage [ unmeasured ↦ Ok (before_window o s call) | measuring ↦ inside_window o s call | sealed ↦ Ok (after_window s call) ]

call-turn : (o : Opening) (m next : Measurements) (call : MonitorCall) (stage : Stage) → m.state.stage ≡ stage → (stage ≡ sealed → is_due o m.state.serial ≡ false)
    → Ends o m next (by_stage o m.state call stage) → Turn o m next (Some call)
call-turn o m next call unmeasured was last ends = before-turn o m next call was (same-ok ends)
call-turn o m next call measuring was last ends = inside-turn o m next call was ends
call-turn o m next call sealed was last ends = after-turn o m next call was (last refl) (same-ok ends)

none-turn : (o : Opening) (m next : Measurements) (stage : Stage) → m.state.stage ≡ stage → m ≡ next → Turn o m next None
none-turn o m next unmeasured was same = stays_out was (ap (λ (n : Measurements). n.state.stage) (sym same) ∙ was) (ap (λ (n : Measurements). length n.shelved) (sym same)) refl
none-turn o m next measuring was same = stays_in was (ap (λ (n : Measurements). n.state.stage) (sym same) ∙ was) (ap (λ (n : Measurements). length n.shelved) (sym same)) refl
none-turn o m next sealed was same = stays_after was (ap (λ (n : Measurements). n.state.stage) (sym same) ∙ was) (ap (λ (n : Measurements). length n.shelved) (sym same)) (ap (λ (n : Measurements). is_due o n.state.serial) (sym same))

pub turned : (o : Opening) (m next : Measurements) (call : Option MonitorCall) → measured_on o m call ≡ Ok next → (m.state.stage ≡ sealed → is_due o m.state.serial ≡ false) → Turn o m next call
turned o m next None ends last = none-turn o m next m.state.stage refl (same-ok ends)
turned o m next (Some call) ends last = call-turn o m next call m.state.stage refl last ends
