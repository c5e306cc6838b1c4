-- A session whose calls keep order is never stopped, and window s of it is sealed exactly where that window of the calls is closed.
use Rattle.std.proofs.Common.{◌≡◌, ◌+◌, ℕ, zero, suc, Bool, true, false, cond, ◌&&◌, ◌||◌, not, eqb, List, [], ◌∷◌, ◌++◌, length, slice_get, filter_map, Option, Some, None, is_some, Ok, Err, refl}
use Rattle.std.proofs.Common.{sym, ap, subst, ◌∙◌, arith, eqb-true, eq-eqb, length-append}
use Rattle.std.specs.List.{list_any}
use Rattle.sha2.specs.Sha256.{sha256}
use Rattle.oat_journal.specs.{Body, window_head, link, Cells, defined, Passes, beyond, is_closed, MonitorCall, Opening, WrongEnd, State, measured, measuring, sealed, unmeasured, violated, body_of}
use Rattle.oat_journal.specs.{is_due, measured_on, measures, reopened, sealed_bodies, shelving, with_state}
use Rattle.oat_follow.specs.Order.{event_of_call}
use Rattle.oat_follow.proofs.Shelving.{Calls, opening, sealing, closed, closed_within, on_shelf, has_body, Seals, in-front, none-behind, due-behind, staged, bodies-at, behind, retested}
use Rattle.oat_follow.proofs.Shelving.{stays-unmeasured, stays-measuring, skipped, opened, passed, over, over-seals}
use Rattle.oat_measure.specs.declared.call.MonitorCall.TheVariants as svc

-- ---- all calls

Waiting : Opening → Calls → Type 0
Waiting o cs = (shelved : List Body) (s : State) (active : Option ℕ) (cells : Cells) (later : Option ℕ) (after : Cells) → s.stage ≡ unmeasured
    → Passes active cells (filter_map event_of_call cs) later after → Seals o shelved s.serial (measures o (on_shelf shelved s) cs) (λ k. closed o k cs)

Within : Opening → Calls → Type 0
Within o cs = (shelved : List Body) (s : State) (cells : Cells) (later : Option ℕ) (after : Cells) → s.stage ≡ measuring
    → Passes (Some o.op) cells (filter_map event_of_call cs) later after → Seals o shelved s.serial (measures o (on_shelf shelved s) cs) (λ k. closed_within o k cs)

-- a call that changes no stage
waits : (o : Opening) (c : Option MonitorCall) (cs : Calls) (shelved : List Body) (s next : State) → measured_on o (on_shelf shelved s) c ≡ Ok (on_shelf shelved next) → opening o c ≡ false
    → Seals o shelved s.serial (measures o (on_shelf shelved next) cs) (λ k. closed o k cs) → Seals o shelved s.serial (measures o (on_shelf shelved s) (c ∷ cs)) (λ k. closed o k (c ∷ cs))
waits o c cs shelved s next to off w =
    retested o shelved s.serial _ (λ k. closed o k (c ∷ cs)) (λ k. closed o k cs) (skipped o c cs off) (behind o shelved s.serial (on_shelf shelved s) (on_shelf shelved next) c cs _ to w)

stays-in : (o : Opening) (c : Option MonitorCall) (cs : Calls) (shelved : List Body) (s next : State) → measured_on o (on_shelf shelved s) c ≡ Ok (on_shelf shelved next) → sealing o c ≡ false
    → Seals o shelved s.serial (measures o (on_shelf shelved next) cs) (λ k. closed_within o k cs) → Seals o shelved s.serial (measures o (on_shelf shelved s) (c ∷ cs)) (λ k. closed_within o k (c ∷ cs))
stays-in o c cs shelved s next to off w =
    retested o shelved s.serial _ (λ k. closed_within o k (c ∷ cs)) (λ k. closed_within o k cs) (passed o c cs off) (behind o shelved s.serial (on_shelf shelved s) (on_shelf shelved next) c cs _ to w)

-- the end that seals
shuts : (o : Opening) (c : MonitorCall) (cs : Calls) (shelved : List Body) (s : State) (cells : Cells) (later : Option ℕ) (after : Cells) (due : Bool) → is_due o s.serial ≡ due
    → measured o s (Some c) ≡ Ok (record s { stage = sealed }) → sealing o (Some c) ≡ true → Waiting o cs → Passes None cells (filter_map event_of_call cs) later after
    → Seals o shelved s.serial (measures o (on_shelf shelved s) (Some c ∷ cs)) (λ k. closed_within o k (Some c ∷ cs))
unfolding Waiting
shuts o c cs shelved s cells later after false last to on rest h =
    let next : State = record s { stage = sealed } in
    behind o shelved s.serial (on_shelf shelved s) (on_shelf shelved next) (Some c) cs _
    (ap (with_state o shelved) to ∙ ap (λ (t : Bool). Ok (cond t (shelving o (on_shelf shelved next)) (on_shelf shelved next))) last)
    (over-seals o (Some c) cs shelved s.serial (measures o (on_shelf shelved next) cs) on last (over o cs shelved next refl last))
shuts o c cs shelved s cells later after true due to on rest h =
    let next : State = record s { stage = sealed } in
    let more : List Body = shelved ++ body_of o next ∷ [] in
    let long : length more ≡ length shelved + 1 = length-append shelved (body_of o next ∷ []) in
    let w = rest more (reopened next) None cells later after refl h in
    behind o shelved s.serial (on_shelf shelved s) (on_shelf more (reopened next)) (Some c) cs _
    (ap (with_state o shelved) to ∙ ap (λ (t : Bool). Ok (cond t (shelving o (on_shelf shelved next)) (on_shelf shelved next))) due)
    (record {
      stop = w.stop;
      before = λ i low. w.before i (omega (arith, low, long));
      done = elim [
        | zero ↦ λ called. w.before (length shelved + 0) (omega (arith, long)) ∙ sym (ap (λ (b : Bool). b || list_any (sealing o) cs) on)
        | suc k ↦ λ called.
            let place : length shelved + suc k ≡ length more + k = omega (arith, long) in
            ap (has_body o (measures o (on_shelf more (reopened next)) cs).measurements) place ∙ w.done k (due-behind o s.serial k called)
            ∙ sym (ap (λ (b : Bool). closed o k (cond b cs (beyond (sealing o) cs))) on)
      ];
    })

some-same : (a b : ℕ) → Some a ≡ Some b → b ≡ a
some-same a b h = cc

within-cons : (o : Opening) (c : Option MonitorCall) (cs : Calls) → Waiting o cs → Within o cs → Within o (c ∷ cs)
unfolding Within
within-cons o None cs out rest shelved s cells later after is h = stays-in o None cs shelved s s refl refl (rest shelved s cells later after is h)
within-cons o (Some (svc.Begin q at)) cs out rest shelved s cells later after is h = absurd (let e : Some o.op ≡ None = h.0 in cc)
within-cons o (Some (svc.End q)) cs out rest shelved s cells later after is h =
    let own : eqb q o.op ≡ true = eq-eqb q o.op (some-same o.op q h.0) in
    shuts o (svc.End q) cs shelved s cells later after (is_due o s.serial) refl
    (staged o s (svc.End q) measuring is ∙ ap (λ (b : Bool). cond b (Ok (record s { stage = sealed })) (Err WrongEnd)) own) own out h.1
within-cons o (Some (svc.Bit value)) cs out rest shelved s cells later after is h =
    let next : State = record s { bits = s.bits ++ not (eqb value 0) ∷ [] } in
    stays-in o (Some (svc.Bit value)) cs shelved s next (stays-measuring o shelved s next (svc.Bit value) (staged o s (svc.Bit value) measuring is) is) refl (rest shelved next cells later after is h)
within-cons o (Some (svc.Target address)) cs out rest shelved s cells later after is h =
    let next : State = record s { targets = s.targets ++ address ∷ [] } in
    stays-in o (Some (svc.Target address)) cs shelved s next (stays-measuring o shelved s next (svc.Target address) (staged o s (svc.Target address) measuring is) is) refl (rest shelved next cells later after is h)
within-cons o (Some (svc.Return address)) cs out rest shelved s cells later after is h =
    let next : State = record s { hash = sha256 (link s.hash address) } in
    stays-in o (Some (svc.Return address)) cs shelved s next (stays-measuring o shelved s next (svc.Return address) (staged o s (svc.Return address) measuring is) is) refl (rest shelved next cells later after is h)
within-cons o (Some (svc.Define cell value)) cs out rest shelved s cells later after is h =
    let next : State = record s { cells = defined s.cells cell value } in
    stays-in o (Some (svc.Define cell value)) cs shelved s next (stays-measuring o shelved s next (svc.Define cell value) (staged o s (svc.Define cell value) measuring is) is) refl (rest shelved next (defined cells cell value) later after is h)
within-cons o (Some (svc.Use cell value)) cs out rest shelved s cells later after is h =
    let next : State = record s { violation = violated s.violation cell (s.cells cell) value } in
    stays-in o (Some (svc.Use cell value)) cs shelved s next (stays-measuring o shelved s next (svc.Use cell value) (staged o s (svc.Use cell value) measuring is) is) refl (rest shelved next cells later after is h.1)

both-true : (a b : Bool) → (a && b) ≡ true → a ≡ true
both-true true b h = refl
both-true false b h = absurd (cc)

waiting-begin : (o : Opening) (q at : ℕ) (cs : Calls) → Waiting o cs → Within o cs → (shelved : List Body) (s : State) (cells : Cells) (later : Option ℕ) (after : Cells) → s.stage ≡ unmeasured
    → Passes (Some q) cells (filter_map event_of_call cs) later after → (b : Bool) → (eqb q o.op && eqb at o.begin_at) ≡ b
    → Seals o shelved s.serial (measures o (on_shelf shelved s) (Some (svc.Begin q at) ∷ cs)) (λ k. closed o k (Some (svc.Begin q at) ∷ cs))
unfolding Waiting Within
waiting-begin o q at cs out rest shelved s cells later after is h true own =
    let c : MonitorCall = svc.Begin q at in
    let next : State = record s { stage = measuring; hash = sha256 (window_head o.nonce o.op o.digest s.serial) } in
    let same : q ≡ o.op = eqb-true q o.op (both-true (eqb q o.op) (eqb at o.begin_at) own) in
    retested o shelved s.serial _ (λ k. closed o k (Some (svc.Begin q at) ∷ cs)) (λ k. closed_within o k cs) (opened o (Some (svc.Begin q at)) cs own)
    (behind o shelved s.serial (on_shelf shelved s) (on_shelf shelved next) (Some (svc.Begin q at)) cs _
    (stays-measuring o shelved s next (svc.Begin q at) (staged o s (svc.Begin q at) unmeasured is ∙ ap (λ (b : Bool). Ok (cond b next s)) own) refl)
    (rest shelved next cells later after refl (subst (λ (n : ℕ). Passes (Some n) cells (filter_map event_of_call cs) later after) same h)))
waiting-begin o q at cs out rest shelved s cells later after is h false other =
    let next : State = record s { stage = measuring; hash = sha256 (window_head o.nonce o.op o.digest s.serial) } in
    waits o (Some (svc.Begin q at)) cs shelved s s
    (stays-unmeasured o shelved s s (svc.Begin q at) (staged o s (svc.Begin q at) unmeasured is ∙ ap (λ (b : Bool). Ok (cond b next s)) other) is) other (out shelved s (Some q) cells later after is h)

waiting-cons : (o : Opening) (c : Option MonitorCall) (cs : Calls) → Waiting o cs → Within o cs → Waiting o (c ∷ cs)
unfolding Waiting
waiting-cons o None cs out rest shelved s active cells later after is h = waits o None cs shelved s s refl refl (out shelved s active cells later after is h)
waiting-cons o (Some (svc.Begin q at)) cs out rest shelved s active cells later after is h =
    waiting-begin o q at cs out rest shelved s cells later after is h.1 (eqb q o.op && eqb at o.begin_at) refl
waiting-cons o (Some (svc.End q)) cs out rest shelved s active cells later after is h =
    waits o (Some (svc.End q)) cs shelved s s (stays-unmeasured o shelved s s (svc.End q) (staged o s (svc.End q) unmeasured is) is) refl (out shelved s None cells later after is h.1)
waiting-cons o (Some (svc.Bit value)) cs out rest shelved s active cells later after is h =
    waits o (Some (svc.Bit value)) cs shelved s s (stays-unmeasured o shelved s s (svc.Bit value) (staged o s (svc.Bit value) unmeasured is) is) refl (out shelved s active cells later after is h)
waiting-cons o (Some (svc.Target address)) cs out rest shelved s active cells later after is h =
    waits o (Some (svc.Target address)) cs shelved s s (stays-unmeasured o shelved s s (svc.Target address) (staged o s (svc.Target address) unmeasured is) is) refl (out shelved s active cells later after is h)
waiting-cons o (Some (svc.Return address)) cs out rest shelved s active cells later after is h =
    waits o (Some (svc.Return address)) cs shelved s s (stays-unmeasured o shelved s s (svc.Return address) (staged o s (svc.Return address) unmeasured is) is) refl (out shelved s active cells later after is h)
waiting-cons o (Some (svc.Define cell value)) cs out rest shelved s active cells later after is h =
    let next : State = record s { cells = defined s.cells cell value } in
    waits o (Some (svc.Define cell value)) cs shelved s next (stays-unmeasured o shelved s next (svc.Define cell value) (staged o s (svc.Define cell value) unmeasured is) is) refl (out shelved next active (defined cells cell value) later after is h)
waiting-cons o (Some (svc.Use cell value)) cs out rest shelved s active cells later after is h =
    waits o (Some (svc.Use cell value)) cs shelved s s (stays-unmeasured o shelved s s (svc.Use cell value) (staged o s (svc.Use cell value) unmeasured is) is) refl (out shelved s active cells later after is h.1)

closed-none : (o : Opening) (k : ℕ) → closed o k [] ≡ false
closed-none o zero = refl
closed-none o (suc k) = closed-none o k

within-none : (o : Opening) (k : ℕ) → closed_within o k [] ≡ false
within-none o zero = refl
within-none o (suc k) = closed-none o k

at-end : (o : Opening) (shelved : List Body) (s : State) (test : ℕ → Bool) → sealed_bodies o (on_shelf shelved s) ≡ shelved ++ [] → ((k : ℕ) → test k ≡ false) → Seals o shelved s.serial (measures o (on_shelf shelved s) []) test
unfolding measures
at-end o shelved s test bodies none = record {
  stop = refl;
  before = λ i low. ap (λ (bs : List Body). is_some (slice_get bs i)) bodies ∙ in-front shelved [] i low;
  done = λ k due. ap (λ (bs : List Body). is_some (slice_get bs (length shelved + k))) bodies ∙ none-behind shelved k ∙ sym (none k);
}

both : (o : Opening) (cs : Calls) → Waiting o cs × Within o cs
unfolding Waiting Within
both o [] = (
  (λ shelved s active cells later after is h. at-end o shelved s (λ k. closed o k []) (bodies-at o (on_shelf shelved s) unmeasured is) (closed-none o)),
  (λ shelved s cells later after is h. at-end o shelved s (λ k. closed_within o k []) (bodies-at o (on_shelf shelved s) measuring is) (within-none o)),
)
both o (c ∷ cs) = let w = both o cs in (waiting-cons o c cs w.0 w.1, within-cons o c cs w.0 w.1)

pub several : (o : Opening) (s : State) (active : Option ℕ) (cells : Cells) (cs : Calls) (later : Option ℕ) (after : Cells) → s.stage ≡ unmeasured
    → Passes active cells (filter_map event_of_call cs) later after → Seals o [] s.serial (measures o (on_shelf [] s) cs) (λ k. is_closed (opening o) (sealing o) k cs)
unfolding Waiting
several o s active cells cs later after is h = (both o cs).0 [] s active cells later after is h
