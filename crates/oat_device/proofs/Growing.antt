-- Measured runs of more and more instructions: what one that goes on has, what the next instruction adds, and that one that ended stays.
use Rattle.std.proofs.Common.{◌≡◌, ◌+◌, ◌-◌, ◌≤◌, ℕ, zero, suc, ℤ, List, [], ◌∷◌, ◌++◌, length, map, Option, Some, None, Result, Ok, Err, refl, sym, ap, ◌∙◌, arith, append-nil}
use Rattle.std.proofs.lemmas.List.{map-append}
use Rattle.oat_measure.specs.Shelving.{Measured}
use Rattle.oat_journal.specs.{Fetch, Undefined, Inst, inst_of, Machine, Effect, acts, decodes, step, word_at, Write, Image, MonitorCall, Opening, StopKind, Measurements, at_start, measured_on}
use Rattle.oat_journal.specs.{measures, with_rest, declared.end.DeviceEnd.DeviceEnd, declared.end.DeviceEnd.TheVariants.Fault, declared.end.DeviceEnd.TheVariants.Stopped, Run.Entry, Run.Running}
use Rattle.oat_journal.specs.{Run.bare, Run.entry, Run.found, Run.from_entry, Run.journal, Run.journal_from, Run.makes, Run.started, Run.turn, Run.turns, Measured.Run, Measured.dev}
use Rattle.oat_journal.specs.{Measured.run_until, Measured.start_cells, Window.made_call}
use Rattle.oat_journal.proofs.RunLaws.{ended_runs_rest, one_turn, turns_add, turns_make_steps}
use Rattle.oat_device.specs.Advancing.{MeasuredRunsStay, JournalsGrow}
use Rattle.oat_a64.specs.declared.event.Event.TheVariants as event

abbrev Calls : Type 0
Calls = List (Option MonitorCall)

-- ---- an instruction that doesn't end a run

-- a word of code at this address, and its instruction
pub record Fetched (code : List ℕ) (pc : ℕ) : Type 0 where
  pub word : ℕ
  pub inst : Inst
  pub at : word_at code pc ≡ Some word
  pub is : inst_of word ≡ Some inst

step-is : (code : List ℕ) (m : Machine) → step code m ≡ decodes (word_at code m.regs.pc) m
unfolding step
step-is code m = refl

pub fetched : (code : List ℕ) (writes : List Write) (s : Running) → s.end ≡ None → (turn code writes s).end ≡ None → Fetched code s.machine.regs.pc
fetched code writes s going on = by (word_at code s.machine.regs.pc) refl where
  m : Machine
  m = found writes s

  made : (o : Option ℕ) → word_at code s.machine.regs.pc ≡ o → turn code writes s ≡ makes s (decodes o m)
  made o is = turns_make_steps code writes s going ∙ ap (makes s) (step-is code m ∙ ap (λ (w : Option ℕ). decodes w m) is)

  inst-by : (word : ℕ) → word_at code s.machine.regs.pc ≡ Some word → (i : Option Inst) → inst_of word ≡ i → Fetched code s.machine.regs.pc
  inst-by word at None is =
      absurd (let q : None ≡ Some (Fault (Undefined s.machine.regs.pc)) = sym on ∙ ap (λ (r : Running). r.end) (made (Some word) at ∙ ap (λ (i : Option Inst). makes s (acts i m)) is) in cc)
  inst-by word at (Some i) is = record { word = word; inst = i; at = at; is = is }

  by : (o : Option ℕ) → word_at code s.machine.regs.pc ≡ o → Fetched code s.machine.regs.pc
  by None is = absurd (let q : None ≡ Some (Fault (Fetch s.machine.regs.pc)) = sym on ∙ ap (λ (r : Running). r.end) (made None is) in cc)
  by (Some word) is = inst-by word is (inst_of word) refl

-- its entry
abbrev pub entry_of : List ℕ → List Write → Running → Inst → Entry
entry_of code writes s i = record { inst = i; found = found writes s; left = (turn code writes s).machine.regs }

noted : (code : List ℕ) (writes : List Write) (s : Running) → s.end ≡ None → (turn code writes s).end ≡ None → (f : Fetched code s.machine.regs.pc) → entry code writes s ≡ Some (entry_of code writes s f.inst)
noted code writes s going on f =
    (one_turn code writes s f.inst going (ap (λ (o : Option ℕ). Rattle.std.specs.Option.option_and_then inst_of o) f.at ∙ f.is)).noted on

-- ---- runs that go on

going-before : (code : List ℕ) (writes : List Write) (n : ℕ) (s : Running) → (turns code writes n s).end ≡ None → s.end ≡ None
going-before code writes n s on = by s.end refl where
  by : (e : Option DeviceEnd) → s.end ≡ e → e ≡ None
  by None is = refl
  by (Some why) is =
      absurd (let q : None ≡ Some why = sym on ∙ ap (λ (r : Running). r.end) (ended_runs_rest code writes n s why is).same ∙ is in cc)

one-turn : (code : List ℕ) (writes : List Write) (s : Running) → turns code writes 1 s ≡ turn code writes s
unfolding turns
one-turn code writes s = refl

going-turn : (code : List ℕ) (writes : List Write) (s : Running) → (turn code writes s).end ≡ None → s.end ≡ None
going-turn code writes s on = going-before code writes 1 s (ap (λ (r : Running). r.end) (one-turn code writes s) ∙ on)

-- each instruction of a run that goes on has its entry
all-noted : (code : List ℕ) (writes : List Write) (n : ℕ) (s : Running) → (turns code writes n s).end ≡ None → length (journal_from code writes n s) ≡ n
unfolding turns journal_from
all-noted code writes zero s on = refl
all-noted code writes (suc n) s on =
    let next = going-before code writes n (turn code writes s) on in
    let now = going-turn code writes s next in
    let first = noted code writes s now next (fetched code writes s now next) in
    let rest = all-noted code writes n (turn code writes s) on in
    ap (λ (e : Option Entry). length (from_entry e (journal_from code writes n (turn code writes s)))) first ∙ ap suc rest

-- ---- measurements over more calls

-- behind a stop nothing is measured
stopped-more : (o : Opening) (xs ys : Calls) (m : Measurements) (stop : StopKind) → (measures o m xs).stop ≡ Some stop → measures o m (xs ++ ys) ≡ measures o m xs
unfolding measures
stopped-more o [] ys m stop h = absurd (let q : None ≡ Some stop = h in cc)
stopped-more o (call ∷ xs) ys m stop h = by (measured_on o m call) h (λ next g. stopped-more o xs ys next stop g) where
  by : (r : Result Measurements StopKind) → (with_rest m r (λ (next : Measurements). measures o next xs)).stop ≡ Some stop
      → ((next : Measurements) → (measures o next xs).stop ≡ Some stop → measures o next (xs ++ ys) ≡ measures o next xs)
      → with_rest m r (λ (next : Measurements). measures o next (xs ++ ys)) ≡ with_rest m r (λ (next : Measurements). measures o next xs)
  by (Ok next) g rest = ap (λ (others : Measured). record others { taken = others.taken + 1 }) (rest next g)
  by (Err why) g rest = refl

-- a stop lies behind all calls that didn't bring one
stops-behind : (o : Opening) (xs ys : Calls) (m : Measurements) → (measures o m xs).stop ≡ None → length xs ≤ (measures o m (xs ++ ys)).taken
unfolding measures
stops-behind o [] ys m h = omega arith
stops-behind o (call ∷ xs) ys m h = by (measured_on o m call) h (λ next g. stops-behind o xs ys next g) where
  by : (r : Result Measurements StopKind) → (with_rest m r (λ (next : Measurements). measures o next xs)).stop ≡ None
      → ((next : Measurements) → (measures o next xs).stop ≡ None → length xs ≤ (measures o next (xs ++ ys)).taken)
      → suc (length xs) ≤ (with_rest m r (λ (next : Measurements). measures o next (xs ++ ys))).taken
  by (Ok next) g rest = let low = rest next g in omega (arith, low)
  by (Err why) g rest = absurd (let q : Some why ≡ None = g in cc)

-- where no call brings a stop, the measurement goes on behind them
record GoesOn (o : Opening) (m behind : Measurements) (all ys : Calls) : Type 0 where
  measurements : (measures o m all).measurements ≡ (measures o behind ys).measurements
  stop : (measures o m all).stop ≡ (measures o behind ys).stop

measured-more : (o : Opening) (xs ys : Calls) (m : Measurements) → (measures o m xs).stop ≡ None → GoesOn o m (measures o m xs).measurements (xs ++ ys) ys
unfolding measures
measured-more o [] ys m h = record { measurements = refl; stop = refl }
measured-more o (call ∷ xs) ys m h = by (measured_on o m call) refl h (λ next g. measured-more o xs ys next g) where
  by : (r : Result Measurements StopKind) → measured_on o m call ≡ r → (with_rest m r (λ (next : Measurements). measures o next xs)).stop ≡ None
      → ((next : Measurements) → (measures o next xs).stop ≡ None → GoesOn o next (measures o next xs).measurements (xs ++ ys) ys)
      → GoesOn o m (with_rest m (measured_on o m call) (λ (next : Measurements). measures o next xs)).measurements (call ∷ (xs ++ ys)) ys
  by (Ok next) was g rest =
      let on = rest next g in
      let first : measures o m (call ∷ (xs ++ ys)) ≡ with_rest m (Ok next) (λ (later : Measurements). measures o later (xs ++ ys)) = ap (λ (r : Result Measurements StopKind). with_rest m r (λ (later : Measurements). measures o later (xs ++ ys))) was in
      let front : (measures o next xs).measurements ≡ (with_rest m (measured_on o m call) (λ (later : Measurements). measures o later xs)).measurements = ap (λ (r : Result Measurements StopKind). (with_rest m r (λ (later : Measurements). measures o later xs)).measurements) (sym was) in
      record {
        measurements = ap (λ (all : Measured). all.measurements) first ∙ (on.measurements ∙ ap (λ (behind : Measurements). (measures o behind ys).measurements) front);
        stop = ap (λ (all : Measured). all.stop) first ∙ (on.stop ∙ ap (λ (behind : Measurements). (measures o behind ys).stop) front);
      }
  by (Err why) was g rest = absurd (let q : Some why ≡ None = g in cc)

last-measured : (o : Opening) (m : Measurements) (call : Option MonitorCall) → (measures o m (call ∷ [])).stop ≡ None → measured_on o m call ≡ Ok (measures o m (call ∷ [])).measurements
unfolding measures
last-measured o m call h = by (measured_on o m call) refl h where
  by : (r : Result Measurements StopKind) → measured_on o m call ≡ r → (with_rest m r (λ (next : Measurements). measures o next [])).stop ≡ None
      → measured_on o m call ≡ Ok (with_rest m (measured_on o m call) (λ (next : Measurements). measures o next [])).measurements
  by (Ok next) was g = was ∙ ap (λ (r : Result Measurements StopKind). Ok (with_rest m r (λ (later : Measurements). measures o later [])).measurements) (sym was)
  by (Err why) was g = absurd (let q : Some why ≡ None = g in cc)

length-map : {X Y : Type 0} (f : X → Y) (xs : List X) → length (map f xs) ≡ length xs
length-map f [] = refl
length-map f (x ∷ xs) = ap suc (length-map f xs)

-- ---- measured runs

module _ (image : Image) (o : Opening) (inputs : List ℤ) (writes : List Write) where
  abbrev pub run : ℕ → Run
  run n = dev image o inputs writes n

  abbrev pub made : ℕ → Measured
  made n = measures o (at_start o (start_cells image)) (map made_call (journal image inputs writes n))

  run-by : (n : ℕ) (stop : Option StopKind) → (made n).stop ≡ stop → run n ≡ run_until image inputs writes n (made n) stop
  run-by n stop was = ap (run_until image inputs writes n (made n)) was

  abbrev pub more : ℕ → ℕ → List Entry
  more n k = journal_from image.code writes k (bare image inputs writes n)

  journal-more : (n k : ℕ) → journal image inputs writes (n + k) ≡ journal image inputs writes n ++ more n k
  journal-more n k = (turns_add image.code writes n k (started image inputs)).journal

  made-more : (n k : ℕ) → made (n + k) ≡ measures o (at_start o (start_cells image)) (map made_call (journal image inputs writes n) ++ map made_call (more n k))
  made-more n k =
      ap (λ (js : List Entry). measures o (at_start o (start_cells image)) (map made_call js)) (journal-more n k)
      ∙ ap (measures o (at_start o (start_cells image))) (map-append made_call (journal image inputs writes n) (more n k))

  -- a run that goes on is the bare run
  pub record Goes (n : ℕ) : Type 0 where
    pub stop : (made n).stop ≡ None
    pub end : (bare image inputs writes n).end ≡ None
    pub run_is : run n ≡ run_until image inputs writes n (made n) None

  pub goes : (n : ℕ) → (run n).end ≡ None → Goes n
  goes n on = by (made n).stop refl where
    by : (stop : Option StopKind) → (made n).stop ≡ stop → Goes n
    by None was = let is = run-by n None was in record { stop = was; end = sym (ap (λ (r : Run). r.end) is) ∙ on; run_is = is }
    by (Some stop) was = absurd (let q : None ≡ Some (Stopped stop) = sym on ∙ ap (λ (r : Run). r.end) (run-by n (Some stop) was) in cc)

  pub stays : (n k : ℕ) (why : DeviceEnd) → (run n).end ≡ Some why → run (n + k) ≡ run n
  stays n k why ended = by (made n).stop refl where
    by : (stop : Option StopKind) → (made n).stop ≡ stop → run (n + k) ≡ run n
    by (Some stop) was =
        let same : made (n + k) ≡ made n = made-more n k ∙ stopped-more o (map made_call (journal image inputs writes n)) (map made_call (more n k)) (at_start o (start_cells image)) stop was in
        run-by (n + k) (Some stop) (ap (λ (m : Measured). m.stop) same ∙ was)
        ∙ (ap (λ (m : Measured). run_until image inputs writes n m (Some stop)) same ∙ sym (run-by n (Some stop) was))
    by None was =
        let end : (bare image inputs writes n).end ≡ Some why = sym (ap (λ (r : Run). r.end) (run-by n None was)) ∙ ended in
        let rests = ended_runs_rest image.code writes k (bare image inputs writes n) why end in
        let state : bare image inputs writes (n + k) ≡ bare image inputs writes n = (turns_add image.code writes n k (started image inputs)).run ∙ rests.same in
        let js : journal image inputs writes (n + k) ≡ journal image inputs writes n =
        journal-more n k ∙ (ap (λ (es : List Entry). journal image inputs writes n ++ es) rests.no_more ∙ append-nil (journal image inputs writes n)) in
        let same : made (n + k) ≡ made n = ap (λ (es : List Entry). measures o (at_start o (start_cells image)) (map made_call es)) js in
        run-by (n + k) None (ap (λ (m : Measured). m.stop) same ∙ was)
        ∙ ((λ i. record { running = state i; measurements = (same i).measurements; end = (state i).end; journal = js i }) ∙ sym (run-by n None was))

  abbrev Grows : ℕ → ℕ → Type 0
  Grows n k = (later : List Entry) × ((run (n + k)).journal ≡ (run n).journal ++ later)

  grows-going : (n k : ℕ) → Goes n → Grows n k
  grows-going n k g = by (made (n + k)).stop refl where
    here : (run n).journal ≡ journal image inputs writes n
    here = ap (λ (r : Run). r.journal) g.run_is

    few : n ≤ (made (n + k)).taken
    few =
        let all : length (journal image inputs writes n) ≡ n = all-noted image.code writes n (started image inputs) g.end in
        let counted = length-map made_call (journal image inputs writes n) in
        let low = stops-behind o (map made_call (journal image inputs writes n)) (map made_call (more n k)) (at_start o (start_cells image)) g.stop in
        let same = ap (λ (m : Measured). m.taken) (made-more n k) in
        omega (arith, all, counted, low, same)

    by : (stop : Option StopKind) → (made (n + k)).stop ≡ stop → Grows n k
    by None was = (more n k, ap (λ (r : Run). r.journal) (run-by (n + k) None was) ∙ (journal-more n k ∙ ap (λ (es : List Entry). es ++ more n k) (sym here)))
    by (Some stop) was =
        let d = (made (n + k)).taken - n in
        let reach : n + d ≡ (made (n + k)).taken = omega (arith, few) in (
          more n d,
          ap (λ (r : Run). r.journal) (run-by (n + k) (Some stop) was)
              ∙ (ap (journal image inputs writes) (sym reach) ∙ (journal-more n d ∙ ap (λ (es : List Entry). es ++ more n d) (sym here))),
        )

  pub grows : (n k : ℕ) → Grows n k
  grows n k = by (run n).end refl where
    by : (e : Option DeviceEnd) → (run n).end ≡ e → Grows n k
    by None on = grows-going n k (goes n on)
    by (Some why) ended = ([], ap (λ (r : Run). r.journal) (stays n k why ended) ∙ sym (append-nil (run n).journal))

  -- ---- the next instruction

  -- the instruction that a run makes next, where that doesn't end it, and its entry behind the others
  abbrev pub next_entry : ℕ → Inst → Entry
  next_entry n inst = record { inst = inst; found = found writes (bare image inputs writes n); left = (bare image inputs writes (n + 1)).machine.regs }

  pub record Adds (n : ℕ) : Type 0 where
    pub fetches : Fetched image.code (bare image inputs writes n).machine.regs.pc
    pub journal_is : (run (n + 1)).journal ≡ (run n).journal ++ next_entry n fetches.inst ∷ []
    pub measured : measured_on o (run n).measurements (made_call (next_entry n fetches.inst)) ≡ Ok (run (n + 1)).measurements

  journal-one : (s : Running) (e : Entry) → entry image.code writes s ≡ Some e → journal_from image.code writes 1 s ≡ e ∷ []
  unfolding journal_from
  journal-one s e is = ap (λ (first : Option Entry). from_entry first []) is

  pub adds : (n : ℕ) → (run n).end ≡ None → (run (n + 1)).end ≡ None → Adds n
  adds n on next =
      let g = goes n on in
      let h = goes (n + 1) next in
      let s = bare image inputs writes n in
      let behind : turn image.code writes s ≡ bare image inputs writes (n + 1) =
      sym ((turns_add image.code writes n 1 (started image inputs)).run ∙ one-turn image.code writes s) in
      let turned : (turn image.code writes s).end ≡ None = ap (λ (r : Running). r.end) behind ∙ h.end in
      let f = fetched image.code writes s g.end turned in
      let e = next_entry n f.inst in
      let first : entry image.code writes s ≡ Some e =
      noted image.code writes s g.end turned f ∙ ap (λ (r : Running). Some (record { inst = f.inst; found = found writes s; left = r.machine.regs })) behind in
      let one : more n 1 ≡ e ∷ [] = journal-one s e first in
      let start = at_start o (start_cells image) in
      let calls = map made_call (journal image inputs writes n) in
      let all : made (n + 1) ≡ measures o start (calls ++ made_call e ∷ []) = made-more n 1 ∙ ap (λ (es : List Entry). measures o start (calls ++ map made_call es)) one in
      let on_from = measured-more o calls (made_call e ∷ []) start g.stop in
      let last = last-measured o (made n).measurements (made_call e) (sym on_from.stop ∙ (sym (ap (λ (m : Measured). m.stop) all) ∙ h.stop)) in
      record {
        fetches = f;
        journal_is = ap (λ (r : Run). r.journal) h.run_is
            ∙ (journal-more n 1 ∙ (ap (λ (es : List Entry). journal image inputs writes n ++ es) one
            ∙ ap (λ (es : List Entry). es ++ e ∷ []) (sym (ap (λ (r : Run). r.journal) g.run_is))));
        measured = ap (λ (r : Run). measured_on o r.measurements (made_call e)) g.run_is
            ∙ (last ∙ ap Ok (sym on_from.measurements ∙ (sym (ap (λ (m : Measured). m.measurements) all) ∙ sym (ap (λ (r : Run). r.measurements) h.run_is))));
      }

pub measured_runs_stay : MeasuredRunsStay
measured_runs_stay image o inputs writes n more why ended = stays image o inputs writes n more why ended

pub journals_grow : JournalsGrow
journals_grow image o inputs writes n more = grows image o inputs writes n more
