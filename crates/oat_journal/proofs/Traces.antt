-- One window of a list of instructions: how it lies in the list, and what the state that seals it holds.
use Rattle.std.proofs.Common.{◌≡◌, ℕ, zero, suc, Bool, true, false, not, cond, ◌&&◌, eqb, List, [], ◌∷◌, ◌++◌, map, fold, filter_map, slice_get, Option, Some, None, Ok, Err, refl, sym, ap, subst, ◌∙◌}
use Rattle.std.proofs.Common.{eqb-true, append-nil, append_assoc}
use Rattle.std.specs.List.{cons_option}
use Rattle.sha2.specs.Sha256.{sha256}
use Rattle.oat_measure.specs.{Body, window_head, chain, link, declared.opening.Opening.Opening, Monitor.opens, Monitor.seals, declared.call.MonitorCall.MonitorCall, Measurement.State}
use Rattle.oat_measure.specs.{Measurement.unmeasured, Measurement.measuring, Measurement.sealed, Measurement.violated, Measurement.after_window, Measurement.measured, Shelving.Measurements}
use Rattle.oat_measure.specs.{Shelving.settled, declared.stop.StopKind.StopKind, declared.stop.StopKind.TheVariants.Nested, declared.stop.StopKind.TheVariants.WrongEnd, Cells, defined, beyond, past}
use Rattle.oat_measure.specs.{through}
use Rattle.oat_journal.specs.{Window.is_made, Window.opens_window, Window.seals_window, Window.returned, Window.recorded_bit, Window.recorded_target, Uses.Held, Uses.define_of, Trace.IsQuiet}
use Rattle.oat_journal.proofs.{Sealing.Calls, Sealing.held_other, Sealing.held_define, Sealing.state_behind, Sealing.staged, Sealing.step-ok, Sealing.step-err, Sealing.no-calls, Sealing.closed-stage}
use Rattle.oat_journal.proofs.{Sealing.not-sealed, Sealing.not-open, Shelves.on_shelf, Shelves.session, Shelves.session-ok, Shelves.session-skip, Shelves.settled-open}
use Rattle.oat_measure.specs.declared.call.MonitorCall.TheVariants as svc

-- ---- lists

pub chained : List ℕ → List ℕ → List ℕ
chained before addresses = fold (λ (hash : List ℕ) (address : ℕ). sha256 (link hash address)) before addresses

chained-none : (before : List ℕ) → chained before [] ≡ before
unfolding chained
chained-none before = refl

chained-more : (before : List ℕ) (o : Option ℕ) (later : List ℕ) → chained before (cons_option o later) ≡ chained (chained before (cons_option o [])) later
unfolding chained
chained-more before None later = refl
chained-more before (Some address) later = refl

chained-one : (before : List ℕ) (address : ℕ) → sha256 (link before address) ≡ chained before (address ∷ [])
unfolding chained
chained-one before address = refl

chained-is : (head addresses : List ℕ) → chained (sha256 head) addresses ≡ chain head addresses
unfolding chained chain
chained-is head addresses = refl

append-more : {A : Type 0} (before : List A) (o : Option A) (later : List A) → (before ++ cons_option o []) ++ later ≡ before ++ cons_option o later
append-more before None later = append_assoc before [] later
append-more before (Some a) later = append_assoc before (a ∷ []) later

-- ---- a window in a list of instructions, seen by the calls that they make

-- what a state holds of a window so far
pub record Holds (s : State) (chain_is : List ℕ) (bits_are : List Bool) (targets_are : List ℕ) : Type 0 where
  pub hash : s.hash ≡ chain_is
  pub bits : s.bits ≡ bits_are
  pub targets : s.targets ≡ targets_are

-- the state behind a list has gathered what this part of it made
abbrev Gathers : {X : Type 0} → (X → Option MonitorCall) → State → State → List X → Type 0
Gathers call s later xs =
    Holds later (chained s.hash (filter_map (λ x. returned (call x)) xs)) (s.bits ++ filter_map (λ x. recorded_bit (call x)) xs) (s.targets ++ filter_map (λ x. recorded_target (call x)) xs)

-- one call inside a window that leaves it open
pub record Adds (s next : State) (call : Option MonitorCall) : Type 0 where
  pub measuring : next.stage ≡ measuring
  pub goes_on : (op : ℕ) → is_made (seals op) call ≡ false
  pub quiet : IsQuiet call
  pub serial : next.serial ≡ s.serial
  pub held : (words : Cells) (earlier : Calls) → Held words earlier s.cells → Held words (earlier ++ call ∷ []) next.cells
  pub holds : Holds next (chained s.hash (cons_option (returned call) [])) (s.bits ++ cons_option (recorded_bit call) []) (s.targets ++ cons_option (recorded_target call) [])

pub record Ended {X : Type 0} (call : X → Option MonitorCall) (o : Opening) (s : State) (xs : List X) : Type 0 where
  pub front : List X
  pub last : X
  pub rest : List X
  pub whole : xs ≡ (front ++ last ∷ []) ++ rest
  pub window : through (seals_window call o.op) xs ≡ front ++ last ∷ []
  pub behind : beyond (seals_window call o.op) xs ≡ rest
  pub seals : call last ≡ Some (svc.End o.op)
  pub quiet : (k : ℕ) (x : X) → slice_get front k ≡ Some x → IsQuiet (call x)
  -- the state that the last of them leaves
  pub closing : State
  pub shut : closing.stage ≡ sealed
  pub serial : closing.serial ≡ s.serial
  pub gathers : Gathers call s closing (front ++ last ∷ [])
  pub held : (words : Cells) (earlier : Calls) → Held words earlier s.cells → Held words (earlier ++ map call (front ++ last ∷ [])) closing.cells
  pub to : state_behind o s (map call xs) ≡ state_behind o closing (map call rest)
  pub goes : (shelved : List Body) → session o (on_shelf shelved s) (map call xs) ≡ session o (settled o (on_shelf shelved closing)) (map call rest)

abbrev Sealed : Opening → State → List (Option MonitorCall) → Type 0
Sealed o s calls = (state_behind o s calls).stage ≡ sealed

-- behind the window nothing more is gathered

pub closed-hash : (s : State) (call : MonitorCall) → (after_window s call).hash ≡ s.hash
closed-hash s (svc.Define cell value) = refl
closed-hash s _ = refl

pub closed-bits : (s : State) (call : MonitorCall) → (after_window s call).bits ≡ s.bits
closed-bits s (svc.Define cell value) = refl
closed-bits s _ = refl

pub closed-targets : (s : State) (call : MonitorCall) → (after_window s call).targets ≡ s.targets
closed-targets s (svc.Define cell value) = refl
closed-targets s _ = refl

pub kept : {A : Type 0} (part : State → A) → ((s : State) (call : MonitorCall) → part (after_window s call) ≡ part s) → (o : Opening) (s : State) (calls : List (Option MonitorCall)) → s.stage ≡ sealed → part (state_behind o s calls) ≡ part s
kept part same o s [] is = ap part (no-calls o s)
kept part same o s (None ∷ calls) is = ap part (step-ok o s None s calls refl) ∙ kept part same o s calls is
kept part same o s (Some call ∷ calls) is =
    ap part (step-ok o s (Some call) (after_window s call) calls (staged o s call sealed is))
    ∙ kept part same o (after_window s call) calls (closed-stage s call ∙ is) ∙ same s call

-- ---- inside the window

quiet-more : {X : Type 0} (call : X → Option MonitorCall) (x : X) (front : List X) → IsQuiet (call x) → ((k : ℕ) (y : X) → slice_get front k ≡ Some y → IsQuiet (call y)) → (k : ℕ) (y : X) → slice_get (x ∷ front) k ≡ Some y → IsQuiet (call y)
quiet-more {X} call x front first rest zero y h =
    let q : x ≡ y = (cc) in subst (λ (z : X). IsQuiet (call z)) q first
quiet-more call x front first rest (suc k) y h = rest k y h

-- a session goes on as the state of its window, where that stays unsealed
one-call : {X : Type 0} (call : X → Option MonitorCall) (o : Opening) (shelved : List Body) (s next : State) (x : X) (xs : List X) → measured o s (call x) ≡ Ok next → (next.stage ≡ sealed → ⊥)
    → session o (on_shelf shelved s) (map call (x ∷ xs)) ≡ session o (on_shelf shelved next) (map call xs)
one-call call o shelved s next x xs to unsealed = by (call x) refl where
  by : (c : Option MonitorCall) → call x ≡ c → session o (on_shelf shelved s) (map call (x ∷ xs)) ≡ session o (on_shelf shelved next) (map call xs)
  by None was =
      let same : s ≡ next = (let h : Ok s ≡ Ok next = sym (ap (measured o s) was) ∙ to in cc) in
      ap (λ (c : Option MonitorCall). session o (on_shelf shelved s) (c ∷ map call xs)) was
      ∙ (session-skip o (on_shelf shelved s) (map call xs) ∙ ap (λ (t : State). session o (on_shelf shelved t) (map call xs)) same)
  by (Some c) was =
      ap (λ (d : Option MonitorCall). session o (on_shelf shelved s) (d ∷ map call xs)) was
      ∙ (session-ok o shelved s next c (map call xs) (sym (ap (measured o s) was) ∙ to)
      ∙ ap (λ (m : Measurements). session o m (map call xs)) (settled-open o (on_shelf shelved next) unsealed))

goes-on : {X : Type 0} (call : X → Option MonitorCall) (o : Opening) (s next : State) (x : X) (xs : List X) → measured o s (call x) ≡ Ok next → Adds s next (call x) → Ended call o next xs → Ended call o s (x ∷ xs)
goes-on {X} call o s next x xs to adds w =
    let window = w.front ++ w.last ∷ [] in
    record {
      front = x ∷ w.front;
      last = w.last;
      rest = w.rest;
      whole = ap (λ (ys : List X). x ∷ ys) w.whole;
      window = ap (λ (t : Bool). cond t (x ∷ []) (x ∷ through (seals_window call o.op) xs)) (adds.goes_on o.op) ∙ ap (λ (ys : List X). x ∷ ys) w.window;
      behind = ap (λ (t : Bool). cond t xs (beyond (seals_window call o.op) xs)) (adds.goes_on o.op) ∙ w.behind;
      seals = w.seals;
      quiet = quiet-more call x w.front adds.quiet w.quiet;
      closing = w.closing;
      shut = w.shut;
      serial = w.serial ∙ adds.serial;
      gathers = record {
        hash = w.gathers.hash ∙ ap (λ (h : List ℕ). chained h (filter_map (λ (y : X). returned (call y)) window)) adds.holds.hash
            ∙ sym (chained-more s.hash (returned (call x)) (filter_map (λ (y : X). returned (call y)) window));
        bits = w.gathers.bits ∙ ap (λ (b : List Bool). b ++ filter_map (λ (y : X). recorded_bit (call y)) window) adds.holds.bits
            ∙ append-more s.bits (recorded_bit (call x)) (filter_map (λ (y : X). recorded_bit (call y)) window);
        targets = w.gathers.targets ∙ ap (λ (t : List ℕ). t ++ filter_map (λ (y : X). recorded_target (call y)) window) adds.holds.targets
            ∙ append-more s.targets (recorded_target (call x)) (filter_map (λ (y : X). recorded_target (call y)) window);
      };
      held = λ words earlier held.
          subst (λ (calls : Calls). Held words calls w.closing.cells) (append_assoc earlier (call x ∷ []) (map call window)) (w.held words (earlier ++ call x ∷ []) (adds.held words earlier held));
      to = step-ok o s (call x) next (map call xs) to ∙ w.to;
      goes = λ shelved. one-call call o shelved s next x xs to (λ is. not-sealed next.stage adds.measuring is) ∙ w.goes shelved;
    }

-- the end that seals
seals-at : {X : Type 0} (call : X → Option MonitorCall) (o : Opening) (s : State) (x : X) (xs : List X) → call x ≡ Some (svc.End o.op) → eqb o.op o.op ≡ true → measured o s (call x) ≡ Ok (record s { stage = sealed }) → Ended call o s (x ∷ xs)
seals-at {X} call o s x xs is same to =
    let closing = record s { stage = sealed } in
    let sealing : is_made (seals o.op) (call x) ≡ true = ap (is_made (seals o.op)) is ∙ same in
    record {
      front = [];
      last = x;
      rest = xs;
      whole = refl;
      window = ap (λ (t : Bool). cond t (x ∷ []) (x ∷ through (seals_window call o.op) xs)) sealing;
      behind = ap (λ (t : Bool). cond t xs (beyond (seals_window call o.op) xs)) sealing;
      seals = is;
      quiet = λ k y h. absurd (let q : None ≡ Some y = h in cc);
      closing = closing;
      shut = refl;
      serial = refl;
      gathers = record {
        hash = sym (chained-none s.hash) ∙ ap (λ (c : Option MonitorCall). chained s.hash (cons_option (returned c) [])) (sym is);
        bits = sym (append-nil s.bits) ∙ ap (λ (c : Option MonitorCall). s.bits ++ cons_option (recorded_bit c) []) (sym is);
        targets = sym (append-nil s.targets) ∙ ap (λ (c : Option MonitorCall). s.targets ++ cons_option (recorded_target c) []) (sym is);
      };
      held = λ words earlier held. subst (λ (c : Option MonitorCall). Held words (earlier ++ c ∷ []) s.cells) (sym is) (held_other words earlier s.cells (Some (svc.End o.op)) (λ _. refl) held);
      to = step-ok o s (call x) closing (map call xs) to;
      goes = λ shelved.
          ap (λ (c : Option MonitorCall). session o (on_shelf shelved s) (c ∷ map call xs)) is
          ∙ session-ok o shelved s closing (svc.End o.op) (map call xs) (sym (ap (measured o s) is) ∙ to);
    }

-- a call that the window goes on behind
onward : {X : Type 0} (call : X → Option MonitorCall) (o : Opening) (s : State) (x : X) (xs : List X) → ((next : State) → next.stage ≡ measuring → Sealed o next (map call xs) → Ended call o next xs)
    → (c : Option MonitorCall) → call x ≡ c → (next : State) → measured o s c ≡ Ok next → Adds s next c → Sealed o s (map call (x ∷ xs)) → Ended call o s (x ∷ xs)
onward call o s x xs rest c was next to adds h =
    let here : measured o s (call x) ≡ Ok next = ap (measured o s) was ∙ to in
    goes-on call o s next x xs here (subst (Adds s next) (sym was) adds)
    (rest next adds.measuring (sym (ap (λ (t : State). t.stage) (step-ok o s (call x) next (map call xs) here)) ∙ h))

-- a call that stops the run
refused : {X A : Type 0} (call : X → Option MonitorCall) (o : Opening) (s : State) (x : X) (xs : List X) (c : Option MonitorCall) → call x ≡ c → (stop : StopKind) → measured o s c ≡ Err stop → s.stage ≡ measuring → Sealed o s (map call (x ∷ xs)) → A
refused call o s x xs c was stop to is h =
    not-sealed s.stage is (sym (ap (λ (t : State). t.stage) (step-err o s (call x) stop (map call xs) (ap (measured o s) was ∙ to))) ∙ h)

same-holds : (s : State) → Holds s (chained s.hash []) (s.bits ++ []) (s.targets ++ [])
same-holds s = record { hash = sym (chained-none s.hash); bits = sym (append-nil s.bits); targets = sym (append-nil s.targets) }

ended-end : {X : Type 0} (call : X → Option MonitorCall) (o : Opening) (s : State) (x : X) (xs : List X) → s.stage ≡ measuring
    → (op : ℕ) → call x ≡ Some (svc.End op) → (t : Bool) → eqb op o.op ≡ t → Sealed o s (map call (x ∷ xs)) → Ended call o s (x ∷ xs)
ended-end call o s x xs is op was true same h =
    let q : op ≡ o.op = eqb-true op o.op same in
    let here : call x ≡ Some (svc.End o.op) = was ∙ ap (λ (n : ℕ). Some (svc.End n)) q in
    let own : eqb o.op o.op ≡ true = sym (ap (λ (n : ℕ). eqb n o.op) q) ∙ same in
    seals-at call o s x xs here own
    (ap (measured o s) here ∙ staged o s (svc.End o.op) measuring is ∙ ap (λ (t : Bool). cond t (Ok (record s { stage = sealed })) (Err WrongEnd)) own)
ended-end call o s x xs is op was false other h =
    refused call o s x xs (Some (svc.End op)) was WrongEnd
    (staged o s (svc.End op) measuring is ∙ ap (λ (t : Bool). cond t (Ok (record s { stage = sealed })) (Err WrongEnd)) other) is h

ended-at : {X : Type 0} (call : X → Option MonitorCall) (o : Opening) (s : State) (x : X) (xs : List X) → ((next : State) → next.stage ≡ measuring → Sealed o next (map call xs) → Ended call o next xs)
    → s.stage ≡ measuring → (c : Option MonitorCall) → call x ≡ c → Sealed o s (map call (x ∷ xs)) → Ended call o s (x ∷ xs)
ended-at call o s x xs rest is None was h =
    onward call o s x xs rest None was s refl (record { measuring = is; goes_on = λ op. refl; quiet = tt; serial = refl; held = λ words earlier held. held_other words earlier s.cells None (λ _. refl) held; holds = same-holds s }) h
ended-at call o s x xs rest is (Some (svc.Begin op at)) was h =
    refused call o s x xs (Some (svc.Begin op at)) was Nested (staged o s (svc.Begin op at) measuring is) is h
ended-at call o s x xs rest is (Some (svc.End op)) was h =
    ended-end call o s x xs is op was (eqb op o.op) refl h
ended-at call o s x xs rest is (Some (svc.Bit value)) was h =
    onward call o s x xs rest (Some (svc.Bit value)) was (record s { bits = s.bits ++ not (eqb value 0) ∷ [] }) (staged o s (svc.Bit value) measuring is)
    (record { measuring = is; goes_on = λ op. refl; quiet = tt; serial = refl; held = λ words earlier held. held_other words earlier s.cells (Some (svc.Bit value)) (λ _. refl) held; holds = record { hash = sym (chained-none s.hash); bits = refl; targets = sym (append-nil s.targets) } }) h
ended-at call o s x xs rest is (Some (svc.Target address)) was h =
    onward call o s x xs rest (Some (svc.Target address)) was (record s { targets = s.targets ++ address ∷ [] }) (staged o s (svc.Target address) measuring is)
    (record { measuring = is; goes_on = λ op. refl; quiet = tt; serial = refl; held = λ words earlier held. held_other words earlier s.cells (Some (svc.Target address)) (λ _. refl) held; holds = record { hash = sym (chained-none s.hash); bits = sym (append-nil s.bits); targets = refl } }) h
ended-at call o s x xs rest is (Some (svc.Return address)) was h =
    onward call o s x xs rest (Some (svc.Return address)) was (record s { hash = sha256 (link s.hash address) }) (staged o s (svc.Return address) measuring is)
    (record { measuring = is; goes_on = λ op. refl; quiet = tt; serial = refl; held = λ words earlier held. held_other words earlier s.cells (Some (svc.Return address)) (λ _. refl) held; holds = record { hash = chained-one s.hash address; bits = sym (append-nil s.bits); targets = sym (append-nil s.targets) } }) h
ended-at call o s x xs rest is (Some (svc.Define cell value)) was h =
    onward call o s x xs rest (Some (svc.Define cell value)) was (record s { cells = defined s.cells cell value }) (staged o s (svc.Define cell value) measuring is)
    (record { measuring = is; goes_on = λ op. refl; quiet = tt; serial = refl; held = λ words earlier held. held_define words earlier s.cells cell value held; holds = record { hash = sym (chained-none s.hash); bits = sym (append-nil s.bits); targets = sym (append-nil s.targets) } }) h
ended-at call o s x xs rest is (Some (svc.Use cell value)) was h =
    onward call o s x xs rest (Some (svc.Use cell value)) was (record s { violation = violated s.violation cell (s.cells cell) value }) (staged o s (svc.Use cell value) measuring is)
    (record { measuring = is; goes_on = λ op. refl; quiet = tt; serial = refl; held = λ words earlier held. held_other words earlier s.cells (Some (svc.Use cell value)) (λ _. refl) held; holds = record { hash = sym (chained-none s.hash); bits = sym (append-nil s.bits); targets = sym (append-nil s.targets) } }) h

ended : {X : Type 0} (call : X → Option MonitorCall) (o : Opening) (s : State) (xs : List X) → s.stage ≡ measuring → Sealed o s (map call xs) → Ended call o s xs
ended call o s [] is h = not-sealed s.stage is (sym (ap (λ (t : State). t.stage) (no-calls o s)) ∙ h)
ended call o s (x ∷ xs) is h = ended-at call o s x xs (λ next now later. ended call o next xs now later) is (call x) refl h

-- ---- before the window

pub record Opened {X : Type 0} (call : X → Option MonitorCall) (o : Opening) (s : State) (xs : List X) : Type 0 where
  pub before : List X
  pub opening : X
  pub rest : List X
  pub whole : xs ≡ (before ++ opening ∷ []) ++ rest
  pub ahead : through (opens_window call o.op o.begin_at) xs ≡ before ++ opening ∷ []
  pub behind : beyond (opens_window call o.op o.begin_at) xs ≡ rest
  pub opens : call opening ≡ Some (svc.Begin o.op o.begin_at)
  pub next : State
  pub measuring : next.stage ≡ measuring
  pub serial : next.serial ≡ s.serial
  pub holds : Holds next (sha256 (window_head o.nonce o.op o.digest s.serial)) [] []
  pub held : (words : Cells) (earlier : Calls) → Held words earlier s.cells → Held words (earlier ++ map call (before ++ opening ∷ [])) next.cells
  pub to : state_behind o s (map call xs) ≡ state_behind o next (map call rest)
  pub goes : (shelved : List Body) → session o (on_shelf shelved s) (map call xs) ≡ session o (on_shelf shelved next) (map call rest)

-- nothing is gathered before the window
pub record Awaits (s : State) : Type 0 where
  pub stage : s.stage ≡ unmeasured
  pub bits : s.bits ≡ []
  pub targets : s.targets ≡ []

-- one call before the window
record Passes (s next : State) (call : Option MonitorCall) : Type 0 where
  awaits : Awaits next
  serial : next.serial ≡ s.serial
  held : (words : Cells) (earlier : Calls) → Held words earlier s.cells → Held words (earlier ++ call ∷ []) next.cells

passes-by : {X : Type 0} (call : X → Option MonitorCall) (o : Opening) (s : State) (x : X) (xs : List X) → ((next : State) → Awaits next → Sealed o next (map call xs) → Opened call o next xs)
    → (c : Option MonitorCall) → call x ≡ c → is_made (opens o.op o.begin_at) c ≡ false → (next : State) → measured o s c ≡ Ok next → Passes s next c → Sealed o s (map call (x ∷ xs)) → Opened call o s (x ∷ xs)
passes-by {X} call o s x xs rest c was other next to passes h =
    let here : measured o s (call x) ≡ Ok next = ap (measured o s) was ∙ to in
    let step : state_behind o s (map call (x ∷ xs)) ≡ state_behind o next (map call xs) = step-ok o s (call x) next (map call xs) here in
    let w = rest next passes.awaits (sym (ap (λ (t : State). t.stage) step) ∙ h) in
    let unopened : is_made (opens o.op o.begin_at) (call x) ≡ false = ap (is_made (opens o.op o.begin_at)) was ∙ other in
    record {
      before = x ∷ w.before;
      opening = w.opening;
      rest = w.rest;
      whole = ap (λ (ys : List X). x ∷ ys) w.whole;
      ahead = ap (λ (t : Bool). cond t (x ∷ []) (x ∷ through (opens_window call o.op o.begin_at) xs)) unopened ∙ ap (λ (ys : List X). x ∷ ys) w.ahead;
      behind = ap (λ (t : Bool). cond t xs (beyond (opens_window call o.op o.begin_at) xs)) unopened ∙ w.behind;
      opens = w.opens;
      next = w.next;
      measuring = w.measuring;
      serial = w.serial ∙ passes.serial;
      holds = subst (λ (k : Option ℕ). Holds w.next (sha256 (window_head o.nonce o.op o.digest k)) [] []) passes.serial w.holds;
      held = λ words earlier held.
          subst (λ (calls : Calls). Held words calls w.next.cells) (append_assoc earlier (call x ∷ []) (map call (w.before ++ w.opening ∷ [])))
          (w.held words (earlier ++ call x ∷ []) (subst (λ (d : Option MonitorCall). Held words (earlier ++ d ∷ []) next.cells) (sym was) (passes.held words earlier held)));
      to = step ∙ w.to;
      goes = λ shelved. one-call call o shelved s next x xs here (λ is. not-open next.stage passes.awaits.stage is) ∙ w.goes shelved;
    }

both-true : (a b : Bool) → (a && b) ≡ true → (a ≡ true) × (b ≡ true)
both-true true b h = (refl, h)
both-true false b h = absurd (cc)

-- a call that changes nothing
passes : (s : State) → Awaits s → (call : Option MonitorCall) → ((j : ℕ) → define_of j call ≡ None) → Passes s s call
passes s awaits call none = record { awaits = awaits; serial = refl; held = λ words earlier held. held_other words earlier s.cells call none held }

opened-begin : {X : Type 0} (call : X → Option MonitorCall) (o : Opening) (s : State) (x : X) (xs : List X) → ((next : State) → Awaits next → Sealed o next (map call xs) → Opened call o next xs)
    → Awaits s → (op at : ℕ) → call x ≡ Some (svc.Begin op at) → (t : Bool) → (eqb op o.op && eqb at o.begin_at) ≡ t → Sealed o s (map call (x ∷ xs)) → Opened call o s (x ∷ xs)
opened-begin {X} call o s x xs rest awaits op at was true own h =
    let next = record s { stage = measuring; hash = sha256 (window_head o.nonce o.op o.digest s.serial) } in
    let both = both-true (eqb op o.op) (eqb at o.begin_at) own in
    let there : op ≡ o.op = eqb-true op o.op both.0 in
    let place : at ≡ o.begin_at = eqb-true at o.begin_at both.1 in
    let to : measured o s (call x) ≡ Ok next = ap (measured o s) was ∙ staged o s (svc.Begin op at) unmeasured awaits.stage ∙ ap (λ (t : Bool). Ok (cond t next s)) own in
    let opening : is_made (opens o.op o.begin_at) (call x) ≡ true = ap (is_made (opens o.op o.begin_at)) was ∙ own in
    record {
      before = [];
      opening = x;
      rest = xs;
      whole = refl;
      ahead = ap (λ (t : Bool). cond t (x ∷ []) (x ∷ through (opens_window call o.op o.begin_at) xs)) opening;
      behind = ap (λ (t : Bool). cond t xs (beyond (opens_window call o.op o.begin_at) xs)) opening;
      opens = was ∙ ap (λ (n : ℕ). Some (svc.Begin n at)) there ∙ ap (λ (a : ℕ). Some (svc.Begin o.op a)) place;
      next = next;
      measuring = refl;
      serial = refl;
      holds = record { hash = refl; bits = awaits.bits; targets = awaits.targets };
      held = λ words earlier held. subst (λ (c : Option MonitorCall). Held words (earlier ++ c ∷ []) s.cells) (sym was) (held_other words earlier s.cells (Some (svc.Begin op at)) (λ _. refl) held);
      to = step-ok o s (call x) next (map call xs) to;
      goes = λ shelved. one-call call o shelved s next x xs to (λ is. absurd (let q : measuring ≡ sealed = is in cc));
    }
opened-begin call o s x xs rest awaits op at was false other h =
    let next = record s { stage = measuring; hash = sha256 (window_head o.nonce o.op o.digest s.serial) } in
    passes-by call o s x xs rest (Some (svc.Begin op at)) was other s
    (staged o s (svc.Begin op at) unmeasured awaits.stage ∙ ap (λ (t : Bool). Ok (cond t next s)) other) (passes s awaits (Some (svc.Begin op at)) (λ _. refl)) h

opened-at : {X : Type 0} (call : X → Option MonitorCall) (o : Opening) (s : State) (x : X) (xs : List X) → ((next : State) → Awaits next → Sealed o next (map call xs) → Opened call o next xs)
    → Awaits s → (c : Option MonitorCall) → call x ≡ c → Sealed o s (map call (x ∷ xs)) → Opened call o s (x ∷ xs)
opened-at call o s x xs rest awaits None was h =
    passes-by call o s x xs rest None was refl s refl (passes s awaits None (λ _. refl)) h
opened-at call o s x xs rest awaits (Some (svc.Begin op at)) was h =
    opened-begin call o s x xs rest awaits op at was (eqb op o.op && eqb at o.begin_at) refl h
opened-at call o s x xs rest awaits (Some (svc.End op)) was h =
    passes-by call o s x xs rest (Some (svc.End op)) was refl s (staged o s (svc.End op) unmeasured awaits.stage) (passes s awaits (Some (svc.End op)) (λ _. refl)) h
opened-at call o s x xs rest awaits (Some (svc.Bit value)) was h =
    passes-by call o s x xs rest (Some (svc.Bit value)) was refl s (staged o s (svc.Bit value) unmeasured awaits.stage) (passes s awaits (Some (svc.Bit value)) (λ _. refl)) h
opened-at call o s x xs rest awaits (Some (svc.Target address)) was h =
    passes-by call o s x xs rest (Some (svc.Target address)) was refl s (staged o s (svc.Target address) unmeasured awaits.stage) (passes s awaits (Some (svc.Target address)) (λ _. refl)) h
opened-at call o s x xs rest awaits (Some (svc.Return address)) was h =
    passes-by call o s x xs rest (Some (svc.Return address)) was refl s (staged o s (svc.Return address) unmeasured awaits.stage) (passes s awaits (Some (svc.Return address)) (λ _. refl)) h
opened-at call o s x xs rest awaits (Some (svc.Define cell value)) was h =
    passes-by call o s x xs rest (Some (svc.Define cell value)) was refl (record s { cells = defined s.cells cell value }) (staged o s (svc.Define cell value) unmeasured awaits.stage)
    (record {
      awaits = record { stage = awaits.stage; bits = awaits.bits; targets = awaits.targets };
      serial = refl;
      held = λ words earlier held. held_define words earlier s.cells cell value held;
    }) h
opened-at call o s x xs rest awaits (Some (svc.Use cell value)) was h =
    passes-by call o s x xs rest (Some (svc.Use cell value)) was refl s (staged o s (svc.Use cell value) unmeasured awaits.stage) (passes s awaits (Some (svc.Use cell value)) (λ _. refl)) h

opened : {X : Type 0} (call : X → Option MonitorCall) (o : Opening) (s : State) (xs : List X) → Awaits s → Sealed o s (map call xs) → Opened call o s xs
opened call o s [] awaits h = not-open s.stage awaits.stage (sym (ap (λ (t : State). t.stage) (no-calls o s)) ∙ h)
opened call o s (x ∷ xs) awaits h = opened-at call o s x xs (λ next now later. opened call o next xs now later) awaits (call x) refl h

-- ---- the first window

pub record Windowed {X : Type 0} (call : X → Option MonitorCall) (o : Opening) (s : State) (xs : List X) : Type 0 where
  -- all up to the begin that opens
  pub before : List X
  pub opening : X
  pub opens : call opening ≡ Some (svc.Begin o.op o.begin_at)
  pub front : List X
  pub last : X
  pub rest : List X
  pub whole : xs ≡ (before ++ opening ∷ []) ++ ((front ++ last ∷ []) ++ rest)
  pub ahead : through (opens_window call o.op o.begin_at) xs ≡ before ++ opening ∷ []
  pub window_is : through (seals_window call o.op) (beyond (opens_window call o.op o.begin_at) xs) ≡ front ++ last ∷ []
  pub behind : past (opens_window call o.op o.begin_at) (seals_window call o.op) xs ≡ rest
  pub seals : call last ≡ Some (svc.End o.op)
  pub quiet : (k : ℕ) (x : X) → slice_get front k ≡ Some x → IsQuiet (call x)
  -- the state that the last of them leaves
  pub closing : State
  pub shut : closing.stage ≡ sealed
  pub serial : closing.serial ≡ s.serial
  pub holds : Holds closing
      (chain (window_head o.nonce o.op o.digest s.serial) (filter_map (λ x. returned (call x)) (front ++ last ∷ [])))
      (filter_map (λ x. recorded_bit (call x)) (front ++ last ∷ []))
      (filter_map (λ x. recorded_target (call x)) (front ++ last ∷ []))
  pub held : (words : Cells) (earlier : Calls) → Held words earlier s.cells → Held words ((earlier ++ map call (before ++ opening ∷ [])) ++ map call (front ++ last ∷ [])) closing.cells
  pub to : state_behind o s (map call xs) ≡ state_behind o closing (map call rest)
  pub goes : (shelved : List Body) → session o (on_shelf shelved s) (map call xs) ≡ session o (settled o (on_shelf shelved closing)) (map call rest)

pub windowed : {X : Type 0} (call : X → Option MonitorCall) (o : Opening) (s : State) (xs : List X) → Awaits s → Sealed o s (map call xs) → Windowed call o s xs
windowed {X} call o s xs awaits h =
    let a = opened call o s xs awaits h in
    let w = ended call o a.next a.rest a.measuring (sym (ap (λ (t : State). t.stage) a.to) ∙ h) in
    let window = w.front ++ w.last ∷ [] in
    record {
      before = a.before;
      opening = a.opening;
      opens = a.opens;
      front = w.front;
      last = w.last;
      rest = w.rest;
      whole = a.whole ∙ ap (λ (ys : List X). (a.before ++ a.opening ∷ []) ++ ys) w.whole;
      ahead = a.ahead;
      window_is = ap (through (seals_window call o.op)) a.behind ∙ w.window;
      behind = ap (beyond (seals_window call o.op)) a.behind ∙ w.behind;
      seals = w.seals;
      quiet = w.quiet;
      closing = w.closing;
      shut = w.shut;
      serial = w.serial ∙ a.serial;
      holds = record {
        hash = w.gathers.hash ∙ ap (λ (h : List ℕ). chained h (filter_map (λ (x : X). returned (call x)) window)) a.holds.hash
            ∙ chained-is (window_head o.nonce o.op o.digest s.serial) (filter_map (λ (x : X). returned (call x)) window);
        bits = w.gathers.bits ∙ ap (λ (b : List Bool). b ++ filter_map (λ (x : X). recorded_bit (call x)) window) a.holds.bits;
        targets = w.gathers.targets ∙ ap (λ (t : List ℕ). t ++ filter_map (λ (x : X). recorded_target (call x)) window) a.holds.targets;
      };
      held = λ words earlier held. w.held words (earlier ++ map call (a.before ++ a.opening ∷ [])) (a.held words earlier held);
      to = a.to ∙ w.to;
      goes = λ shelved. a.goes shelved ∙ w.goes shelved;
    }
