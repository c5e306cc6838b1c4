-- Each body of a session tells its window, whatever its number.
use Rattle.std.proofs.Common.{◌≡◌, ◌+◌, ◌<◌, ◌⊎◌, ℕ, zero, suc, Bool, true, false, cond, List, [], ◌∷◌, ◌++◌, length, map, filter_map, slice_get, Option, Some, None, option_map, refl, sym, ap, subst}
use Rattle.std.proofs.Common.{◌∙◌, inl, inr, arith, append_assoc, length-append}
use Rattle.std.proofs.lemmas.{Bool.ltb-true, List.map-append}
use Rattle.oat_measure.specs.{Body, window_head, chain, declared.opening.Opening.Opening, Monitor.opens, Monitor.seals, declared.call.MonitorCall.MonitorCall, Measurement.State, Measurement.sealed}
use Rattle.oat_measure.specs.{Shelving.IsBodyAt, Shelving.Measurements, Shelving.sealed_bodies, Shelving.body_of, Shelving.is_due, Shelving.reopened, Shelving.settled, Cells, beyond, inside, through}
use Rattle.oat_measure.specs.{up_to}
use Rattle.oat_journal.specs.{Window.is_made, Window.opens_window, Window.seals_window, Window.up_to_window, Window.window, Window.returned, Window.recorded_bit, Window.recorded_target, Uses.Held}
use Rattle.oat_journal.specs.{Uses.uses_behind, Measured.first_unsound, Trace.IsQuiet}
use Rattle.oat_journal.proofs.{Sealing.Calls, Sealing.awaits, Sealing.same, Sealing.sealed-keeps, Sealing.state_behind, Shelves.closed-serial, Shelves.bodies-open, Shelves.bodies-sealed}
use Rattle.oat_journal.proofs.{Shelves.get-beyond, Shelves.get-last, Shelves.is-sealed, Shelves.on_shelf, Shelves.sealed-stays, Shelves.session, Shelves.settled-sealed, Shelves.shelf-stays}
use Rattle.oat_journal.proofs.{Shelves.stays-open, Shelves.stays-sealed, Traces.Awaits, Traces.Windowed, Traces.closed-bits, Traces.closed-hash, Traces.closed-targets, Traces.kept, Traces.windowed}
use Rattle.oat_measure.specs.declared.call.MonitorCall.TheVariants as svc

-- ---- windows of instructions and of their calls

cond-map : {X Y : Type 0} (f : X → Y) (t : Bool) (xs ys : List X) → map f (cond t xs ys) ≡ cond t (map f xs) (map f ys)
cond-map f true xs ys = refl
cond-map f false xs ys = refl

through-map : {X : Type 0} (call : X → Option MonitorCall) (test : MonitorCall → Bool) (xs : List X) → map call (through (λ x. is_made test (call x)) xs) ≡ through (is_made test) (map call xs)
through-map call test [] = refl
through-map call test (x ∷ xs) =
    cond-map call (is_made test (call x)) (x ∷ []) (x ∷ through (λ y. is_made test (call y)) xs)
    ∙ ap (λ (rest : Calls). cond (is_made test (call x)) (call x ∷ []) (call x ∷ rest)) (through-map call test xs)

beyond-map : {X : Type 0} (call : X → Option MonitorCall) (test : MonitorCall → Bool) (xs : List X) → map call (beyond (λ x. is_made test (call x)) xs) ≡ beyond (is_made test) (map call xs)
beyond-map call test [] = refl
beyond-map call test (x ∷ xs) =
    cond-map call (is_made test (call x)) xs (beyond (λ y. is_made test (call y)) xs)
    ∙ ap (λ (rest : Calls). cond (is_made test (call x)) (map call xs) rest) (beyond-map call test xs)

-- ---- where a window stands

pub record Placed {X : Type 0} (call : X → Option MonitorCall) (o : Opening) (s : ℕ) (xs : List X) : Type 0 where
  -- all before the begin that opens
  pub before : List X
  pub opening : X
  pub opens : call opening ≡ Some (svc.Begin o.op o.begin_at)
  pub front : List X
  pub last : X
  pub rest : List X
  pub whole : xs ≡ before ++ opening ∷ ((front ++ last ∷ []) ++ rest)
  pub window_is : window call o.op o.begin_at s xs ≡ front ++ last ∷ []
  pub seals : call last ≡ Some (svc.End o.op)
  pub quiet : (k : ℕ) (x : X) → slice_get front k ≡ Some x → IsQuiet (call x)

placed-first : {X : Type 0} (call : X → Option MonitorCall) (o : Opening) (s : State) (xs : List X) → Windowed call o s xs → Placed call o 0 xs
placed-first {X} call o s xs w = record {
  before = w.before;
  opening = w.opening;
  opens = w.opens;
  front = w.front;
  last = w.last;
  rest = w.rest;
  whole = w.whole ∙ append_assoc w.before (w.opening ∷ []) ((w.front ++ w.last ∷ []) ++ w.rest);
  window_is = w.window_is;
  seals = w.seals;
  quiet = w.quiet;
}

placed-next : {X : Type 0} (call : X → Option MonitorCall) (o : Opening) (s : State) (k : ℕ) (xs : List X) → (w : Windowed call o s xs) → Placed call o k w.rest → Placed call o (suc k) xs
placed-next {X} call o s k xs w p =
    let first = w.before ++ w.opening ∷ [] in
    let window = w.front ++ w.last ∷ [] in
    let later = p.opening ∷ ((p.front ++ p.last ∷ []) ++ p.rest) in
    record {
      before = (first ++ window) ++ p.before;
      opening = p.opening;
      opens = p.opens;
      front = p.front;
      last = p.last;
      rest = p.rest;
      whole = w.whole ∙ (ap (λ (ys : List X). first ++ (window ++ ys)) p.whole
          ∙ (sym (append_assoc first window (p.before ++ later)) ∙ sym (append_assoc (first ++ window) p.before later)));
      window_is = ap (inside (opens_window call o.op o.begin_at) (seals_window call o.op) k) w.behind ∙ p.window_is;
      seals = p.seals;
      quiet = p.quiet;
    }

-- ---- what a body tells

pub record Told {X : Type 0} (call : X → Option MonitorCall) (o : Opening) (words : Cells) (earlier : Calls) (number : Option ℕ) (s : ℕ) (xs : List X) (body : Body) : Type 0 where
  pub op : body.head.op ≡ o.op
  pub nonce : body.head.nonce ≡ o.nonce
  pub digest : body.head.digest ≡ o.digest
  pub serial : body.head.serial ≡ number
  pub called_for : (s ≡ 0) ⊎ ((n : ℕ) × (number ≡ Some n) × (n < o.calls))
  pub hash : body.head.hash ≡ chain (window_head o.nonce o.op o.digest number) (filter_map (λ x. returned (call x)) (window call o.op o.begin_at s xs))
  pub bits : body.bits ≡ filter_map (λ x. recorded_bit (call x)) (window call o.op o.begin_at s xs)
  pub targets : body.targets ≡ filter_map (λ x. recorded_target (call x)) (window call o.op o.begin_at s xs)
  pub violation : body.head.violation ≡ first_unsound (uses_behind words (earlier ++ map call (up_to_window call o.op o.begin_at s xs)) (map call (window call o.op o.begin_at s xs)))
  pub placed : Placed call o s xs

-- a body is that of a sealed state
record IsOf (o : Opening) (closing : State) (body : Body) : Type 0 where
  op : body.head.op ≡ o.op
  nonce : body.head.nonce ≡ o.nonce
  digest : body.head.digest ≡ o.digest
  serial : body.head.serial ≡ closing.serial
  hash : body.head.hash ≡ closing.hash
  bits : body.bits ≡ closing.bits
  targets : body.targets ≡ closing.targets
  violation : body.head.violation ≡ closing.violation

same-body : {body other : Body} → Some other ≡ Some body → other ≡ body
same-body h = cc

of-state : (o : Opening) (closing t : State) (body : Body) → t.serial ≡ closing.serial → t.hash ≡ closing.hash → t.bits ≡ closing.bits → t.targets ≡ closing.targets → t.violation ≡ closing.violation → Some (body_of o t) ≡ Some body → IsOf o closing body
of-state o closing t body serial hash bits targets violation h =
    subst (λ (b : Body). IsOf o closing b) (same-body h) (record { op = refl; nonce = refl; digest = refl; serial = serial; hash = hash; bits = bits; targets = targets; violation = violation })

-- the body at the first place behind the shelf
first-body : (o : Opening) (shelved : List Body) (closing : State) (calls : Calls) (body : Body) → closing.stage ≡ sealed → (due : Bool) → is_due o closing.serial ≡ due
    → IsBodyAt o (session o (settled o (on_shelf shelved closing)) calls) (length shelved) body → IsOf o closing body
first-body o shelved closing calls body is true due h =
    let to = settled-sealed o (on_shelf shelved closing) true is due in
    let more = shelved ++ body_of o closing ∷ [] in
    let long : length more ≡ length shelved + 1 = length-append shelved (body_of o closing ∷ []) in
    of-state o closing closing body refl refl refl refl refl
    (sym (ap (λ (m : Measurements). slice_get (sealed_bodies o (session o m calls)) (length shelved)) to
    ∙ (shelf-stays o calls more (reopened closing) (length shelved) (omega arith) ∙ get-last shelved (body_of o closing))) ∙ h)
first-body o shelved closing calls body is false due h =
    let to = settled-sealed o (on_shelf shelved closing) false is due in
    let t = state_behind o closing calls in
    of-state o closing t body
    (kept (λ (s : State). s.serial) closed-serial o closing calls is) (kept (λ (s : State). s.hash) closed-hash o closing calls is) (kept (λ (s : State). s.bits) closed-bits o closing calls is)
    (kept (λ (s : State). s.targets) closed-targets o closing calls is) (sealed-keeps o closing calls is)
    (sym (ap (λ (m : Measurements). slice_get (sealed_bodies o (session o m calls)) (length shelved)) to
    ∙ (ap (λ (m : Measurements). slice_get (sealed_bodies o m) (length shelved)) (stays-sealed o calls shelved closing is due)
    ∙ (ap (λ (bodies : List Body). slice_get bodies (length shelved)) (bodies-sealed o (on_shelf shelved t) (sealed-stays o calls closing is)) ∙ get-last shelved (body_of o t)))) ∙ h)

-- there is none behind it where no further window is due
no-further : (o : Opening) (shelved : List Body) (closing : State) (calls : Calls) (body : Body) (k : ℕ) → closing.stage ≡ sealed → is_due o closing.serial ≡ false
    → IsBodyAt o (session o (settled o (on_shelf shelved closing)) calls) (length shelved + suc k) body → ⊥
no-further o shelved closing calls body k is due h =
    let t = state_behind o closing calls in
    let more = shelved ++ body_of o t ∷ [] in
    let long : length more ≡ length shelved + 1 = length-append shelved (body_of o t ∷ []) in
    let at : length shelved + suc k ≡ length more + k = omega arith in
    let none : slice_get (sealed_bodies o (session o (settled o (on_shelf shelved closing)) calls)) (length shelved + suc k) ≡ None =
    ap (λ (m : Measurements). slice_get (sealed_bodies o (session o m calls)) (length shelved + suc k)) (settled-sealed o (on_shelf shelved closing) false is due)
    ∙ (ap (λ (m : Measurements). slice_get (sealed_bodies o m) (length shelved + suc k)) (stays-sealed o calls shelved closing is due)
    ∙ (ap (λ (bodies : List Body). slice_get bodies (length shelved + suc k)) (bodies-sealed o (on_shelf shelved t) (sealed-stays o calls closing is))
    ∙ (ap (slice_get more) at ∙ get-beyond more k))) in
    let q : None ≡ Some body = sym none ∙ h in absurd (cc)

-- nor any where the window isn't sealed
none-open : (o : Opening) (shelved : List Body) (s : State) (calls : Calls) (body : Body) (k : ℕ) → ((state_behind o s calls).stage ≡ sealed → ⊥) → IsBodyAt o (session o (on_shelf shelved s) calls) (length shelved + k) body → ⊥
none-open o shelved s calls body k unsealed h =
    let none : slice_get (sealed_bodies o (session o (on_shelf shelved s) calls)) (length shelved + k) ≡ None =
    ap (λ (m : Measurements). slice_get (sealed_bodies o m) (length shelved + k)) (stays-open o calls shelved s unsealed)
    ∙ (ap (λ (bodies : List Body). slice_get bodies (length shelved + k)) (bodies-open o (on_shelf shelved (state_behind o s calls)) unsealed) ∙ get-beyond shelved k) in
    let q : None ≡ Some body = sym none ∙ h in absurd (cc)

-- ---- the first window

first-exact : {X : Type 0} (call : X → Option MonitorCall) (o : Opening) (words : Cells) (earlier : Calls) (xs : List X) (s : State) → Awaits s → s.violation ≡ None → Held words earlier s.cells
    → (w : Windowed call o s xs) → (state_behind o s (map call xs)).stage ≡ sealed
    → w.closing.violation ≡ first_unsound (uses_behind words (earlier ++ map call (up_to_window call o.op o.begin_at 0 xs)) (map call (window call o.op o.begin_at 0 xs)))
first-exact {X} call o words earlier xs s waits none held w is =
    let ahead : up_to_window same o.op o.begin_at 0 (map call xs) ≡ map call (up_to_window call o.op o.begin_at 0 xs) = sym (through-map call (opens o.op o.begin_at) xs) in
    let inner : window same o.op o.begin_at 0 (map call xs) ≡ map call (window call o.op o.begin_at 0 xs) =
    ap (through (seals_window same o.op)) (sym (beyond-map call (opens o.op o.begin_at) xs)) ∙ sym (through-map call (seals o.op) (beyond (opens_window call o.op o.begin_at) xs)) in
    sym (sealed-keeps o w.closing (map call w.rest) w.shut)
    ∙ (ap (λ (t : State). t.violation) (sym w.to)
    ∙ (awaits o words (map call xs) earlier s waits.stage none held is
    ∙ (ap (λ (front : Calls). first_unsound (uses_behind words (earlier ++ front) (window same o.op o.begin_at 0 (map call xs)))) ahead
    ∙ ap (λ (rest : Calls). first_unsound (uses_behind words (earlier ++ map call (up_to_window call o.op o.begin_at 0 xs)) rest)) inner)))

plus-none : (serial : Option ℕ) → serial ≡ option_map (λ (first : ℕ). first + 0) serial
plus-none None = refl
plus-none (Some first) = let n : first ≡ first + 0 = omega arith in ap Some n

told-first : {X : Type 0} (call : X → Option MonitorCall) (o : Opening) (words : Cells) (earlier : Calls) (xs : List X) (s : State) (body : Body) → Awaits s → s.violation ≡ None → Held words earlier s.cells
    → (w : Windowed call o s xs) → (state_behind o s (map call xs)).stage ≡ sealed → IsOf o w.closing body → Told call o words earlier (option_map (λ (first : ℕ). first + 0) s.serial) 0 xs body
told-first {X} call o words earlier xs s body waits none held w is of = record {
  op = of.op;
  nonce = of.nonce;
  digest = of.digest;
  serial = of.serial ∙ (w.serial ∙ plus-none s.serial);
  called_for = inl refl;
  hash = of.hash ∙ (w.holds.hash
      ∙ (ap (λ (ys : List X). chain (window_head o.nonce o.op o.digest s.serial) (filter_map (λ (x : X). returned (call x)) ys)) (sym w.window_is)
      ∙ ap (λ (k : Option ℕ). chain (window_head o.nonce o.op o.digest k) (filter_map (λ (x : X). returned (call x)) (window call o.op o.begin_at 0 xs))) (plus-none s.serial)));
  bits = of.bits ∙ (w.holds.bits ∙ ap (λ (ys : List X). filter_map (λ (x : X). recorded_bit (call x)) ys) (sym w.window_is));
  targets = of.targets ∙ (w.holds.targets ∙ ap (λ (ys : List X). filter_map (λ (x : X). recorded_target (call x)) ys) (sym w.window_is));
  violation = of.violation ∙ first-exact call o words earlier xs s waits none held w is;
  placed = placed-first call o s xs w;
}

-- ---- a further one

plus-one : (k : ℕ) (serial : Option ℕ) → option_map (λ (first : ℕ). first + k) (option_map (λ (n : ℕ). n + 1) serial) ≡ option_map (λ (first : ℕ). first + suc k) serial
plus-one k None = refl
plus-one k (Some first) = let n : (first + 1) + k ≡ first + suc k = omega arith in ap Some n

ahead-next : {X : Type 0} (call : X → Option MonitorCall) (o : Opening) (earlier : Calls) (k : ℕ) (xs : List X) (s : State) (w : Windowed call o s xs)
    → ((earlier ++ map call (w.before ++ w.opening ∷ [])) ++ map call (w.front ++ w.last ∷ [])) ++ map call (up_to_window call o.op o.begin_at k w.rest) ≡ earlier ++ map call (up_to_window call o.op o.begin_at (suc k) xs)
ahead-next {X} call o earlier k xs s w =
    let opens_here = opens_window call o.op o.begin_at in
    let seals_here = seals_window call o.op in
    let first = w.before ++ w.opening ∷ [] in
    let inner = w.front ++ w.last ∷ [] in
    let later = up_to opens_here seals_here k w.rest in
    let parts : (first ++ inner) ++ later ≡ up_to opens_here seals_here (suc k) xs =
    ap (λ (a : List X). (a ++ inner) ++ later) (sym w.ahead)
    ∙ (ap (λ (a : List X). (through opens_here xs ++ a) ++ later) (sym w.window_is)
    ∙ ap (λ (ys : List X). (through opens_here xs ++ through seals_here (beyond opens_here xs)) ++ up_to opens_here seals_here k ys) (sym w.behind)) in
    ap (λ (front : Calls). front ++ map call later) (append_assoc earlier (map call first) (map call inner))
    ∙ (append_assoc earlier (map call first ++ map call inner) (map call later)
    ∙ ap (λ (calls : Calls). earlier ++ calls) (ap (λ (front : Calls). front ++ map call later) (sym (map-append call first inner))
    ∙ (sym (map-append call (first ++ inner) later) ∙ ap (map call) parts)))

-- the number of a window that is due
due-number : (o : Opening) (serial : Option ℕ) (k : ℕ) → is_due o serial ≡ true
    → ((k ≡ 0) ⊎ ((n : ℕ) × (option_map (λ (first : ℕ). first + k) (option_map (λ (n : ℕ). n + 1) serial) ≡ Some n) × (n < o.calls)))
    → (n : ℕ) × (option_map (λ (first : ℕ). first + suc k) serial ≡ Some n) × (n < o.calls)
due-number o None k due (inl none) = absurd (cc)
due-number o None k due (inr more) = absurd (cc)
due-number o (Some first) k due (inl none) =
    let low : first + 1 < o.calls = ltb-true (first + 1) o.calls due in
    (first + suc k, refl, omega (arith, low, none))
due-number o (Some first) k due (inr more) =
    let same : (first + 1) + k ≡ more.0 = (let h : Some ((first + 1) + k) ≡ Some more.0 = more.1 in cc) in
    let low : more.0 < o.calls = more.2 in
    (first + suc k, refl, omega (arith, low, same))

told-next : {X : Type 0} (call : X → Option MonitorCall) (o : Opening) (words : Cells) (earlier : Calls) (k : ℕ) (xs : List X) (s : State) (body : Body) (w : Windowed call o s xs) → is_due o w.closing.serial ≡ true
    → Told call o words ((earlier ++ map call (w.before ++ w.opening ∷ [])) ++ map call (w.front ++ w.last ∷ [])) (option_map (λ (first : ℕ). first + k) (option_map (λ (n : ℕ). n + 1) w.closing.serial)) k w.rest body
    → Told call o words earlier (option_map (λ (first : ℕ). first + suc k) s.serial) (suc k) xs body
told-next {X} call o words earlier k xs s body w due t =
    let here : window call o.op o.begin_at k w.rest ≡ window call o.op o.begin_at (suc k) xs = ap (inside (opens_window call o.op o.begin_at) (seals_window call o.op) k) (sym w.behind) in
    record {
      op = t.op;
      nonce = t.nonce;
      digest = t.digest;
      serial = t.serial ∙ (plus-one k w.closing.serial ∙ ap (option_map (λ (first : ℕ). first + suc k)) w.serial);
      called_for = inr (subst (λ (m : Option ℕ). (n : ℕ) × (option_map (λ (first : ℕ). first + suc k) m ≡ Some n) × (n < o.calls)) w.serial (due-number o w.closing.serial k due t.called_for));
      hash = t.hash
          ∙ (ap (λ (ys : List X). chain (window_head o.nonce o.op o.digest (option_map (λ (first : ℕ). first + k) (option_map (λ (n : ℕ). n + 1) w.closing.serial))) (filter_map (λ (x : X). returned (call x)) ys)) here
          ∙ ap (λ (n : Option ℕ). chain (window_head o.nonce o.op o.digest n) (filter_map (λ (x : X). returned (call x)) (window call o.op o.begin_at (suc k) xs)))
          (plus-one k w.closing.serial ∙ ap (option_map (λ (first : ℕ). first + suc k)) w.serial));
      bits = t.bits ∙ ap (λ (ys : List X). filter_map (λ (x : X). recorded_bit (call x)) ys) here;
      targets = t.targets ∙ ap (λ (ys : List X). filter_map (λ (x : X). recorded_target (call x)) ys) here;
      violation = t.violation
          ∙ (ap (λ (front : Calls). first_unsound (uses_behind words front (map call (window call o.op o.begin_at k w.rest)))) (ahead-next call o earlier k xs s w)
          ∙ ap (λ (ys : List X). first_unsound (uses_behind words (earlier ++ map call (up_to_window call o.op o.begin_at (suc k) xs)) (map call ys))) here);
      placed = placed-next call o s k xs w t.placed;
    }

-- ---- any window

pub told : (s : ℕ) {X : Type 0} (call : X → Option MonitorCall) (o : Opening) (words : Cells) (earlier : Calls) (xs : List X) (shelved : List Body) (st : State) (body : Body)
    → Awaits st → st.violation ≡ None → Held words earlier st.cells → IsBodyAt o (session o (on_shelf shelved st) (map call xs)) (length shelved + s) body
    → Told call o words earlier (option_map (λ (first : ℕ). first + s) st.serial) s xs body
told zero {X} call o words earlier xs shelved st body waits none held h = elim (is-sealed (state_behind o st (map call xs)).stage) [
  | inr unsealed ↦ absurd (none-open o shelved st (map call xs) body 0 unsealed h)
  | inl is ↦
      let w = windowed call o st xs waits is in
      let at : length shelved + 0 ≡ length shelved = omega arith in
      told-first call o words earlier xs st body waits none held w is
      (first-body o shelved w.closing (map call w.rest) body w.shut (is_due o w.closing.serial) refl
      (subst (λ (n : ℕ). IsBodyAt o (session o (settled o (on_shelf shelved w.closing)) (map call w.rest)) n body) at (subst (λ (m : Measurements). IsBodyAt o m (length shelved + 0) body) (w.goes shelved) h)))
]
told (suc k) {X} call o words earlier xs shelved st body waits none held h = elim (is-sealed (state_behind o st (map call xs)).stage) [
  | inr unsealed ↦ absurd (none-open o shelved st (map call xs) body (suc k) unsealed h)
  | inl is ↦
      let w = windowed call o st xs waits is in
      further w (is_due o w.closing.serial) refl (subst (λ (m : Measurements). IsBodyAt o m (length shelved + suc k) body) (w.goes shelved) h)
      (told k call o words ((earlier ++ map call (w.before ++ w.opening ∷ [])) ++ map call (w.front ++ w.last ∷ [])) w.rest (shelved ++ body_of o w.closing ∷ []) (reopened w.closing) body
      (record { stage = refl; bits = refl; targets = refl }) refl (w.held words earlier held))
] where
  further : (w : Windowed call o st xs) (due : Bool) → is_due o w.closing.serial ≡ due → IsBodyAt o (session o (settled o (on_shelf shelved w.closing)) (map call w.rest)) (length shelved + suc k) body
      → (IsBodyAt o (session o (on_shelf (shelved ++ body_of o w.closing ∷ []) (reopened w.closing)) (map call w.rest)) (length (shelved ++ body_of o w.closing ∷ []) + k) body
      → Told call o words ((earlier ++ map call (w.before ++ w.opening ∷ [])) ++ map call (w.front ++ w.last ∷ [])) (option_map (λ (first : ℕ). first + k) (option_map (λ (n : ℕ). n + 1) w.closing.serial)) k w.rest body)
      → Told call o words earlier (option_map (λ (first : ℕ). first + suc k) st.serial) (suc k) xs body
  further w false due here rest = absurd (no-further o shelved w.closing (map call w.rest) body k w.shut due here)
  further w true due here rest =
      let long : length (shelved ++ body_of o w.closing ∷ []) ≡ length shelved + 1 = length-append shelved (body_of o w.closing ∷ []) in
      let at : length shelved + suc k ≡ length (shelved ++ body_of o w.closing ∷ []) + k = omega arith in
      told-next call o words earlier k xs st body w due (rest
      (subst (λ (n : ℕ). IsBodyAt o (session o (on_shelf (shelved ++ body_of o w.closing ∷ []) (reopened w.closing)) (map call w.rest)) n body) at
      (subst (λ (m : Measurements). IsBodyAt o (session o m (map call w.rest)) (length shelved + suc k) body) (settled-sealed o (on_shelf shelved w.closing) true w.shut due) here)))
