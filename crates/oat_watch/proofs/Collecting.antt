-- What one more instruction makes of the windows that are collected of a run.
use Rattle.std.proofs.Common.{◌≡◌, ◌++◌, ◌∷◌, ◌∙◌, ◌+◌, ◌<◌, ℕ, zero, suc, Bool, true, false, List, [], append-nil, append_assoc, length, length-append, map, Option, Some, slice_get, inl, inr, refl}
use Rattle.std.proofs.Common.{sym, ap, subst, arith}
use Rattle.std.specs.Prelude.{◌⊎◌}
use Rattle.std.proofs.lemmas.{Bool.cases_lt, List.map-append}
use Rattle.oat_events.proofs.WindowLaws.{closed_stays, inside_stays, up_to_stays}
use Rattle.oat_attest.specs.{Cells, is_closed, Image, MonitorCall, Opening, measuring, sealed, unmeasured, Measurements, at_start, is_due, start_cells, Entry, Held, made_call}
use Rattle.oat_watch.specs.{Collecting.AreClosedWindows, Collecting.RunStands, Collecting.is_opened, Collecting.made_before, Collecting.made_in, Collecting.opens_one, Collecting.seals_one}
use Rattle.oat_watch.specs.{Collecting.RunStands.finished, Collecting.RunStands.outside, Collecting.RunStands.within, declared.window.Window.Window, Shown.Holds}
use Rattle.oat_watch.proofs.{Closing.going, Closing.opening, Staging.Turn, Staging.Turn.opens_window, Staging.Turn.seals_due, Staging.Turn.seals_last, Staging.Turn.stays_after, Staging.Turn.stays_in}
use Rattle.oat_watch.proofs.{Staging.Turn.stays_out}

module _ (image : Image) (o : Opening) where
  abbrev Opened : ℕ → List Entry → Bool
  Opened n js = is_opened (opens_one o) (seals_one o) n js

  abbrev Closed : ℕ → List Entry → Bool
  Closed n js = is_closed (opens_one o) (seals_one o) n js

  -- what the present window holds behind an instruction more
  abbrev pub Grows : Entry → Cells → Window → Window → Type 0
  Grows e cells present next =
      (before : List (Option MonitorCall)) (made : List Entry) → Held (start_cells image) (before ++ map made_call made) cells
      → Holds image o.op before made present → Holds image o.op before (made ++ e ∷ []) next

  pub closed-more : (js : List Entry) (e : Entry) (windows : List Window) → AreClosedWindows image o js windows → AreClosedWindows image o (js ++ e ∷ []) windows
  closed-more js e windows c = record {
    closed = λ s below. closed_stays (opens_one o) (seals_one o) s js (e ∷ []) (c.closed s below);
    holds = λ s window at.
        let below = within-length windows s window at in
        let is = c.closed s below in
        subst (λ (before : List Entry). Holds image o.op (map made_call before) (made_in o s (js ++ e ∷ [])) window) (sym (up_to_stays (opens_one o) (seals_one o) s js (e ∷ []) is))
        (subst (λ (made : List Entry). Holds image o.op (map made_call (made_before o s js)) made window) (sym (inside_stays (opens_one o) (seals_one o) s js (e ∷ []) is)) (c.holds s window at));
  } where
    within-length : (ws : List Window) (s : ℕ) (w : Window) → slice_get ws s ≡ Some w → s < length ws
    within-length [] s w at = absurd (cc)
    within-length (x ∷ ws) zero w at = omega arith
    within-length (x ∷ ws) (suc s) w at = let rest = within-length ws s w at in omega (arith, rest)

  -- ---- before a window

  pub out-more : (m next : Measurements) (js : List Entry) (e : Entry) (windows : List Window) (present : Window) → Turn o m next (made_call e) → (m.state.stage ≡ measuring → ⊥)
      → AreClosedWindows image o js windows → RunStands image o m js (length windows) present → RunStands image o next (js ++ e ∷ []) (length windows) present
  out-more m next js e windows present (stays_out was is len none) not c (outside at count shut holds) =
      let n = opening (opens_one o) (seals_one o) (length windows) js e c.closed shut in
      outside is (count ∙ sym len) (n.opened ∙ none) holds
  out-more m next js e windows present (opens_window was is len one) not c (outside at count shut holds) =
      let n = opening (opens_one o) (seals_one o) (length windows) js e c.closed shut in
      within is (count ∙ sym len) (n.opened ∙ one) n.closed
      (ap (λ zs. zs ++ made_in o (length windows) (js ++ e ∷ [])) n.up_to_is ∙ (ap (λ zs. (js ++ e ∷ []) ++ zs) n.inside_is ∙ append-nil (js ++ e ∷ [])))
      (subst (λ (made : List Entry). Holds image o.op (map made_call (made_before o (length windows) (js ++ e ∷ []))) made present) (sym n.inside_is) (holds _))
  out-more m next js e windows present (stays_after was is len due) not c (finished at count last) = finished is (count ∙ ap (λ (n : ℕ). n + 1) (sym len)) (due ∙ last)
  out-more m next js e windows present (stays_after was is len due) not c (outside at count shut holds) = absurd (let q : unmeasured ≡ sealed = sym at ∙ was in cc)
  out-more m next js e windows present (stays_out was is len none) not c (finished at count last) = absurd (let q : unmeasured ≡ sealed = sym was ∙ at in cc)
  out-more m next js e windows present (opens_window was is len one) not c (finished at count last) = absurd (let q : unmeasured ≡ sealed = sym was ∙ at in cc)
  out-more m next js e windows present turn not c (within at count is shut whole holds) = absurd (not at)
  out-more m next js e windows present (stays_in was is len none) not c s = absurd (not was)
  out-more m next js e windows present (seals_due was is len one) not c s = absurd (not was)
  out-more m next js e windows present (seals_last was is len due one) not c s = absurd (not was)

  -- ---- inside one

  record Inside (m : Measurements) (js : List Entry) (count : ℕ) (present : Window) : Type 0 where
    count_is : count ≡ length m.shelved
    opened : Opened count js ≡ true
    shut : Closed count js ≡ false
    whole : made_before o count js ++ made_in o count js ≡ js
    holds : Holds image o.op (map made_call (made_before o count js)) (made_in o count js) present

  inside-is : (m : Measurements) (js : List Entry) (count : ℕ) (present : Window) → m.state.stage ≡ measuring → RunStands image o m js count present → Inside m js count present
  inside-is m js count present was (within at count_is opened shut whole holds) = record { count_is = count_is; opened = opened; shut = shut; whole = whole; holds = holds }
  inside-is m js count present was (outside at count_is shut holds) = absurd (let q : unmeasured ≡ measuring = sym at ∙ was in cc)
  inside-is m js count present was (finished at count_is last) = absurd (let q : sealed ≡ measuring = sym at ∙ was in cc)

  -- the present window with this instruction, among the instructions so far
  record Taken (js : List Entry) (e : Entry) (count : ℕ) (next : Window) : Type 0 where
    closed : Closed count (js ++ e ∷ []) ≡ seals_one o e
    opened : Opened count (js ++ e ∷ []) ≡ true
    behind : Opened (suc count) (js ++ e ∷ []) ≡ false
    whole : made_before o count (js ++ e ∷ []) ++ made_in o count (js ++ e ∷ []) ≡ js ++ e ∷ []
    holds : Holds image o.op (map made_call (made_before o count (js ++ e ∷ []))) (made_in o count (js ++ e ∷ [])) next

  taken-in : (m : Measurements) (js : List Entry) (e : Entry) (cells : Cells) (windows : List Window) (present next : Window) → Held (start_cells image) (map made_call js) cells → Grows e cells present next
      → AreClosedWindows image o js windows → Inside m js (length windows) present → Taken js e (length windows) next
  taken-in m js e cells windows present next held grows c i =
      let n = going (opens_one o) (seals_one o) (length windows) js e c.closed i.opened i.shut in
      let before = made_before o (length windows) js in
      let made = made_in o (length windows) js in
      let all : map made_call js ≡ map made_call before ++ map made_call made = ap (map made_call) (sym i.whole) ∙ map-append made_call before made in
      let more = grows (map made_call before) made (subst (λ (calls : List (Option MonitorCall)). Held (start_cells image) calls cells) all held) i.holds in
      record {
        closed = n.closed;
        opened = n.opened;
        behind = n.behind;
        whole = ap (λ zs. zs ++ made_in o (length windows) (js ++ e ∷ [])) n.up_to_is ∙ (ap (λ zs. before ++ zs) n.inside_is ∙ (sym (append_assoc before made (e ∷ [])) ∙ ap (λ zs. zs ++ e ∷ []) i.whole));
        holds = subst (λ (b : List Entry). Holds image o.op (map made_call b) (made_in o (length windows) (js ++ e ∷ [])) next) (sym n.up_to_is)
            (subst (λ (w : List Entry). Holds image o.op (map made_call before) w next) (sym n.inside_is) more);
      }

  pub in-more : (m next : Measurements) (js : List Entry) (e : Entry) (cells : Cells) (windows : List Window) (present later : Window) → Turn o m next (made_call e) → m.state.stage ≡ measuring → next.state.stage ≡ measuring
      → Held (start_cells image) (map made_call js) cells → Grows e cells present later
      → AreClosedWindows image o js windows → RunStands image o m js (length windows) present → RunStands image o next (js ++ e ∷ []) (length windows) later
  in-more m next js e cells windows present later (stays_in was is len none) at there held grows c s =
      let i = inside-is m js (length windows) present at s in
      let t = taken-in m js e cells windows present later held grows c i in
      within is (i.count_is ∙ sym len) t.opened (t.closed ∙ none) t.whole t.holds
  in-more m next js e cells windows present later (stays_out was is len none) at there held grows c s = absurd (let q : unmeasured ≡ measuring = sym was ∙ at in cc)
  in-more m next js e cells windows present later (opens_window was is len one) at there held grows c s = absurd (let q : unmeasured ≡ measuring = sym was ∙ at in cc)
  in-more m next js e cells windows present later (seals_due was is len one) at there held grows c s = absurd (let q : unmeasured ≡ measuring = sym is ∙ there in cc)
  in-more m next js e cells windows present later (seals_last was is len due one) at there held grows c s = absurd (let q : sealed ≡ measuring = sym is ∙ there in cc)
  in-more m next js e cells windows present later (stays_after was is len due) at there held grows c s = absurd (let q : sealed ≡ measuring = sym was ∙ at in cc)

  -- ---- at its end

  last-at : (windows : List Window) (window other : Window) (s : ℕ) → slice_get (windows ++ window ∷ []) s ≡ Some other → ((slice_get windows s ≡ Some other) × (s < length windows)) ⊎ ((s ≡ length windows) × (window ≡ other))
  last-at [] window other zero at = inr (refl, cc)
  last-at [] window other (suc s) at = absurd (cc)
  last-at (w ∷ windows) window other zero at = inl (at, omega arith)
  last-at (w ∷ windows) window other (suc s) at = elim (last-at windows window other s at) [
    | inl here ↦ let low = here.1 in inl (here.0, omega (arith, low))
    | inr last ↦ let same = last.0 in inr (omega (arith, same), last.1)
  ]

  close : (js : List Entry) (e : Entry) (windows : List Window) (window : Window) → seals_one o e ≡ true → AreClosedWindows image o js windows → Taken js e (length windows) window
      → AreClosedWindows image o (js ++ e ∷ []) (windows ++ window ∷ [])
  close js e windows window one c t =
      let more = closed-more js e windows c in
      let long = length-append windows (window ∷ []) in
      record {
        closed = λ s below. elim (cases_lt s (length windows)) [
          | inl earlier ↦ more.closed s earlier
          | inr last ↦
              let same : length windows ≡ s = omega (arith, last, below, long) in
              subst (λ (i : ℕ). Closed i (js ++ e ∷ []) ≡ true) same (t.closed ∙ one)
        ];
        holds = λ s other at. elim (last-at windows window other s at) [
          | inl earlier ↦ more.holds s other earlier.0
          | inr last ↦
              subst (λ (i : ℕ). Holds image o.op (map made_call (made_before o i (js ++ e ∷ []))) (made_in o i (js ++ e ∷ [])) other) (sym last.0)
              (subst (λ (w : Window). Holds image o.op (map made_call (made_before o (length windows) (js ++ e ∷ []))) (made_in o (length windows) (js ++ e ∷ [])) w) last.1 t.holds)
        ];
      }

  pub record Closes (next : Measurements) (js : List Entry) (e : Entry) (windows : List Window) (window fresh : Window) : Type 0 where
    pub closed : AreClosedWindows image o (js ++ e ∷ []) (windows ++ window ∷ [])
    pub stands : RunStands image o next (js ++ e ∷ []) (length (windows ++ window ∷ [])) fresh

  pub closes : (m next : Measurements) (js : List Entry) (e : Entry) (cells : Cells) (windows : List Window) (present window fresh : Window) → Turn o m next (made_call e) → m.state.stage ≡ measuring → (next.state.stage ≡ measuring → ⊥)
      → Held (start_cells image) (map made_call js) cells → Grows e cells present window → ((before : List (Option MonitorCall)) → Holds image o.op before [] fresh)
      → AreClosedWindows image o js windows → RunStands image o m js (length windows) present → Closes next js e windows window fresh
  closes m next js e cells windows present window fresh (seals_due was is len one) at not held grows none c s =
      let i = inside-is m js (length windows) present at s in
      let t = taken-in m js e cells windows present window held grows c i in
      let long : length (windows ++ window ∷ []) ≡ suc (length windows) = length-append windows (window ∷ []) ∙ plus-one (length windows) in
      record {
        closed = close js e windows window one c t;
        stands = subst (λ (n : ℕ). RunStands image o next (js ++ e ∷ []) n fresh) (sym long)
            (outside is (ap suc i.count_is ∙ (sym (plus-one (length m.shelved)) ∙ sym len)) t.behind none);
      } where
        plus-one : (n : ℕ) → n + 1 ≡ suc n
        plus-one n = omega arith
  closes m next js e cells windows present window fresh (seals_last was is len due one) at not held grows none c s =
      let i = inside-is m js (length windows) present at s in
      let t = taken-in m js e cells windows present window held grows c i in
      let long = length-append windows (window ∷ []) in
      record {
        closed = close js e windows window one c t;
        stands = finished is (long ∙ ap (λ (n : ℕ). n + 1) (i.count_is ∙ sym len)) due;
      }
  closes m next js e cells windows present window fresh (stays_in was is len none') at not held grows none c s = absurd (not is)
  closes m next js e cells windows present window fresh (stays_out was is len none') at not held grows none c s = absurd (let q : unmeasured ≡ measuring = sym was ∙ at in cc)
  closes m next js e cells windows present window fresh (opens_window was is len one) at not held grows none c s = absurd (not is)
  closes m next js e cells windows present window fresh (stays_after was is len due) at not held grows none c s = absurd (let q : sealed ≡ measuring = sym was ∙ at in cc)

  -- behind the last window none is due
  pub last-one : (m : Measurements) (js : List Entry) (count : ℕ) (present : Window) → RunStands image o m js count present → m.state.stage ≡ sealed → is_due o m.state.serial ≡ false
  last-one m js count present (finished at count_is last) was = last
  last-one m js count present (outside at count_is shut holds) was = absurd (let q : unmeasured ≡ sealed = sym at ∙ was in cc)
  last-one m js count present (within at count_is opened shut whole holds) was = absurd (let q : measuring ≡ sealed = sym at ∙ was in cc)

-- the cells behind an instruction more
pub held-next : (words cells : Cells) (js : List Entry) (e : Entry) (call : Option MonitorCall) → call ≡ made_call e → Held words (map made_call js ++ call ∷ []) cells → Held words (map made_call (js ++ e ∷ [])) cells
held-next words cells js e call is held =
    subst (λ (calls : List (Option MonitorCall)). Held words calls cells) (ap (λ (c : Option MonitorCall). map made_call js ++ c ∷ []) is ∙ sym (map-append made_call js (e ∷ []))) held

pub grows-by : (image : Image) (o : Opening) (op : ℕ) (e : Entry) (cells : Cells) (present next : Window) → o.op ≡ op
    → ((before : List (Option MonitorCall)) (made : List Entry) → Held (start_cells image) (before ++ map made_call made) cells → Holds image op before made present → Holds image op before (made ++ e ∷ []) next)
    → Grows image o e cells present next
grows-by image o op e cells present next is grows before made held holds =
    subst (λ (n : ℕ). Holds image n before (made ++ e ∷ []) next) (sym is) (grows before made held (subst (λ (n : ℕ). Holds image n before made present) is holds))

-- at the start no window has closed
none-opened : (o : Opening) → is_opened (opens_one o) (seals_one o) 0 [] ≡ false
unfolding is_opened
none-opened o = refl

pub starts : (image : Image) (o : Opening) (windows : List Window) (present : Window) → windows ≡ [] → ((before : List (Option MonitorCall)) → Holds image o.op before [] present)
    → AreClosedWindows image o [] windows × RunStands image o (at_start o (start_cells image)) [] (length windows) present
starts image o windows present none holds =
    subst (λ (ws : List Window). AreClosedWindows image o [] ws × RunStands image o (at_start o (start_cells image)) [] (length ws) present) (sym none)
    (record { closed = λ s below. absurd (omega (arith, below)); holds = λ s window at. absurd (cc) }, outside refl refl (none-opened o) holds)
