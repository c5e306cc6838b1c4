-- The windows of a whole run are those that were collected of it.
use Rattle.std.proofs.Common.{◌≡◌, ◌++◌, ◌∷◌, ◌∙◌, ◌+◌, ◌-◌, ◌<◌, ℕ, zero, suc, Bool, true, false, cond, ltb, List, [], append-nil, length, length-append, map, Option, Some, None, slice_get, inl, inr}
use Rattle.std.proofs.Common.{refl, sym, ap, subst, arith}
use Rattle.std.proofs.lemmas.Bool.{ltb-true}
use Rattle.oat_events.proofs.WindowLaws.{inside_stays, up_to_stays}
use Rattle.oat_attest.specs.{Body, Image, DeviceEnd, OutOfSteps, dev, start_cells, Entry, journal_from, made_call, Opening, Stage, measuring, sealed, unmeasured, Measurements, at_start, body_of}
use Rattle.oat_attest.specs.{measures, sealed_bodies}
use Rattle.oat_device.specs.{Advancing.HasEntry, Advancing.HasNoEntry, Advancing.end_by_now, declared.entry.Entry.Entry as ShownEntry, DeviceRun.DeviceRun, DeviceRun.run_so_far}
use Rattle.oat_device.specs.{DeviceRun.window_opening}
use Rattle.oat_device.proofs.DeviceLaws.{journals_grow}
use Rattle.oat_watch.specs.{Collecting.AreWindows, Collecting.Collects, Collecting.IsCollected, Collecting.RunStands, Collecting.made_before, Collecting.made_in, Collecting.opens_one}
use Rattle.oat_watch.specs.{Collecting.seals_one, Collecting.RunStands.finished, Collecting.RunStands.outside, Collecting.RunStands.within, declared.collection.Collection.Collection}
use Rattle.oat_watch.specs.{declared.window.Window.Window, Shown.Holds}

-- ---- a run that goes on has steps left

abbrev end-by : ℕ → ℕ → Option DeviceEnd → Option DeviceEnd
end-by turns steps end = elim end [ None ↦ cond (ltb turns steps) None (Some OutOfSteps) | Some why ↦ Some why ]

pub left : (device : DeviceRun) → end_by_now device ≡ None → device.turns < device.case.steps
left device none = by (run_so_far device).end refl where
  below : (b : Bool) → ltb device.turns device.case.steps ≡ b → end-by device.turns device.case.steps None ≡ None → device.turns < device.case.steps
  below true is h = ltb-true device.turns device.case.steps is
  below false is h = absurd (let q : Some OutOfSteps ≡ None = sym (ap (λ (b : Bool). cond b None (Some OutOfSteps)) is) ∙ h in cc)

  by : (e : Option DeviceEnd) → (run_so_far device).end ≡ e → device.turns < device.case.steps
  by (Some why) is = absurd (let q : Some why ≡ None = sym (ap (end-by device.turns device.case.steps) is) ∙ none in cc)
  by None is = below (ltb device.turns device.case.steps) refl (sym (ap (end-by device.turns device.case.steps) is) ∙ none)

-- ---- how many windows

bodies-at : (o : Opening) (m : Measurements) (stage : Stage) → m.state.stage ≡ stage
    → length (sealed_bodies o m) ≡ length m.shelved + (elim stage as (λ _. ℕ) [ unmeasured ↦ 0 | measuring ↦ 0 | sealed ↦ 1 ])
bodies-at o m stage is =
    ap (λ (g : Stage). length (m.shelved ++ elim g as (λ _. List Body) [ unmeasured ↦ [] | measuring ↦ [] | sealed ↦ body_of o m.state ∷ [] ])) is ∙ by stage where
      by : (g : Stage) → length (m.shelved ++ elim g as (λ _. List Body) [ unmeasured ↦ [] | measuring ↦ [] | sealed ↦ body_of o m.state ∷ [] ])
          ≡ length m.shelved + (elim g as (λ _. ℕ) [ unmeasured ↦ 0 | measuring ↦ 0 | sealed ↦ 1 ])
      by unmeasured = length-append m.shelved []
      by measuring = length-append m.shelved []
      by sealed = length-append m.shelved (body_of o m.state ∷ [])

count-is : (image : Image) (o : Opening) (m : Measurements) (js : List Entry) (count : ℕ) (present : Window) → RunStands image o m js count present → count ≡ length (sealed_bodies o m)
count-is image o m js count present (outside at is shut holds) = let all = bodies-at o m unmeasured at in omega (arith, all, is)
count-is image o m js count present (within at is opened shut whole holds) = let all = bodies-at o m measuring at in omega (arith, all, is)
count-is image o m js count present (finished at is last) = let all = bodies-at o m sealed at in omega (arith, all, is)

-- ---- all windows

pub all-windows : (image : Image) (device : DeviceRun) (collection : Collection) (made : ℕ) → IsCollected image device collection made
    → AreWindows image (window_opening device) (run_so_far device) collection.closed.items
all-windows image device collection made c = record {
  counted = count-is image o m c.journal (length windows) collection.present c.collects.stands;
  holds = λ s window at.
      let below = within-length windows s window at in
      let is = c.collects.closed.closed s below in
      subst (λ (all : List Entry). Holds image o.op (map made_call (made_before o s all)) (made_in o s all) window) (sym c.journal_is)
      (subst (λ (before : List Entry). Holds image o.op (map made_call before) (made_in o s (c.journal ++ c.later)) window) (sym (up_to_stays (opens_one o) (seals_one o) s c.journal c.later is))
      (subst (λ (inside : List Entry). Holds image o.op (map made_call (made_before o s c.journal)) inside window) (sym (inside_stays (opens_one o) (seals_one o) s c.journal c.later is))
      (c.collects.closed.holds s window at)));
} where
  o : Opening
  o = window_opening device

  m : Measurements
  m = (run_so_far device).measurements

  windows : List Window
  windows = collection.closed.items

  within-length : (ws : List Window) (s : ℕ) (w : Window) → slice_get ws s ≡ Some w → s < length ws
  within-length [] s w at = absurd (cc)
  within-length (x ∷ ws) zero w at = omega arith
  within-length (x ∷ ws) (suc s) w at = let rest = within-length ws s w at in omega (arith, rest)

-- ---- one instruction more

-- a run that goes on stands behind as many instructions as were made, all of which are collected
pub record Goes (image : Image) (device : DeviceRun) (collection : Collection) (made : ℕ) : Type 0 where
  pub turns : device.turns ≡ made
  pub collects : Collects image (window_opening device) (run_so_far device).measurements (run_so_far device).journal collection

pub goes : (image : Image) (device : DeviceRun) (collection : Collection) (made : ℕ) → IsCollected image device collection made → end_by_now device ≡ None → Goes image device collection made
goes image device collection made c on = elim c.stands [
  | inr whole ↦ let below = left device on in absurd (omega (arith, below, whole))
  | inl way ↦ record {
    turns = way.0;
    collects = subst (λ (all : List Entry). Collects image (window_opening device) (run_so_far device).measurements all collection)
        (sym (c.journal_is ∙ (ap (λ (later : List Entry). c.journal ++ later) way.1 ∙ append-nil c.journal))) c.collects;
  }
]

-- the same device, behind another number of instructions
abbrev Same : DeviceRun → DeviceRun → Type 0
Same old new = new ≡ record old { turns = new.turns }

opening-same : (old new : DeviceRun) → Same old new → window_opening new ≡ window_opening old
opening-same old new same = ap window_opening same

-- with an entry
pub with-entry : (image : Image) (old new : DeviceRun) → Same old new → (made : ℕ) (before after : Collection) (shown : ShownEntry) → IsCollected image old before made → end_by_now old ≡ None → (h : HasEntry old new shown)
    → Collects image (window_opening old) (run_so_far new).measurements ((run_so_far old).journal ++ h.entry ∷ []) after → IsCollected image new after (made + 1)
with-entry image old new same made before after shown c on h collects =
    let g = goes image old before made c on in
    let below = left old on in
    let counted = h.counted in
    let steps = ap (λ (d : DeviceRun). d.case.steps) same in
    record {
      journal = (run_so_far old).journal ++ h.entry ∷ [];
      later = [];
      journal_is = h.behind ∙ sym (append-nil ((run_so_far old).journal ++ h.entry ∷ []));
      collects = subst (λ (o : Opening). Collects image o (run_so_far new).measurements ((run_so_far old).journal ++ h.entry ∷ []) after) (sym (opening-same old new same)) collects;
      within = omega (arith, below, counted, steps);
      stands = inl (counted ∙ ap (λ (n : ℕ). n + 1) g.turns, refl);
    }

-- without one
pub without-entry : (image : Image) (old new : DeviceRun) → Same old new → (made : ℕ) (collection : Collection) → IsCollected image old collection made → end_by_now old ≡ None → HasNoEntry old new
    → IsCollected image new collection (made + 1)
without-entry image old new same made collection c on h =
    let g = goes image old collection made c on in
    let o = window_opening old in
    let low = c.within in
    let whole = h.whole in
    let steps = ap (λ (d : DeviceRun). d.case.steps) same in
    let more = old.case.steps - old.turns in
    let reach : old.turns + more ≡ new.turns = omega (arith, low, whole, steps) in
    let grown = journals_grow old.image o old.case.inputs old.case.writes old.turns more in
    record {
      journal = (run_so_far old).journal;
      later = grown.0;
      journal_is = ap (λ (d : DeviceRun). (run_so_far d).journal) same ∙ (ap (λ (n : ℕ). (dev old.image o old.case.inputs old.case.writes n).journal) (sym reach) ∙ grown.1);
      collects = subst (λ (p : Opening). Collects image p (run_so_far new).measurements (run_so_far old).journal collection) (sym (opening-same old new same))
          (subst (λ (m : Measurements). Collects image o m (run_so_far old).journal collection) (sym h.measured) g.collects);
      within = omega (arith, whole);
      stands = inr whole;
    }

-- ---- the start and the end of a run

pub at-first : (image : Image) (device : DeviceRun) (collection : Collection) → device.turns ≡ 0 → ((o : Opening) → Collects image o (at_start o (start_cells image)) [] collection) → device.image ≡ image → IsCollected image device collection 0
unfolding journal_from measures
at-first image device collection none collects same = record {
  journal = [];
  later = [];
  journal_is = ap (λ (n : ℕ). (dev device.image o device.case.inputs device.case.writes n).journal) none ∙ first-journal;
  collects = subst (λ (m : Measurements). Collects image o m [] collection) (sym (ap (λ (n : ℕ). (dev device.image o device.case.inputs device.case.writes n).measurements) none ∙ (first-measured ∙ ap (λ (i : Image). at_start o (start_cells i)) same))) (collects o);
  within = omega (arith, none);
  stands = inl (none, refl);
} where
  o : Opening
  o = window_opening device

  first-journal : (dev device.image o device.case.inputs device.case.writes 0).journal ≡ []
  first-journal = refl

  first-measured : (dev device.image o device.case.inputs device.case.writes 0).measurements ≡ at_start o (start_cells device.image)
  first-measured = refl

pub all-made : (image : Image) (device : DeviceRun) (collection : Collection) → IsCollected image device collection device.case.steps → device.turns ≡ device.case.steps
all-made image device collection c = elim c.stands [ inl way ↦ way.0 | inr whole ↦ whole ]
