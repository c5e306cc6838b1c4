-- What has been collected of a run while it goes on: its windows that have closed, and the present one (docs/DEFINITIONS.md, "The run beside its verdict").
use Rattle.std.specs.{Prelude.◌≡◌, Prelude.◌+◌, Prelude.◌++◌, Prelude.◌<◌, Prelude.◌≤◌, Prelude.◌⊎◌, Prelude.ℕ, Prelude.zero, Prelude.suc, Prelude.Bool, Prelude.true, Prelude.false, Prelude.List}
use Rattle.std.specs.{Prelude.[], Prelude.◌∷◌, Prelude.◌↔◌, Prelude.IsTrue, Prelude.Ok, Prelude.Option, Prelude.Some, Prelude.length, Prelude.map, Prelude.slice_get, List.list_any}
use Rattle.oat_attest.specs.{inside, is_closed, past, up_to, Image, MonitorCall, Opening, measuring, sealed, unmeasured, cells_of, Measurements, is_due, measured_on, sealed_bodies, Run, start_cells}
use Rattle.oat_attest.specs.{window_of, Entry, Held, made_call, opens_window, seals_window, Headline.calls_before}
use Rattle.oat_device.specs.{Advancing.ShowsEntry, declared.entry.Entry.Entry as ShownEntry, DeviceRun.DeviceRun, DeviceRun.run_so_far, DeviceRun.window_opening}
use Rattle.oat_watch.specs.{declared.collection.Collection.Collection, declared.window.Window.Window, Shown.Holds}

-- window s was opened
unfoldable pub is_opened : {X : Type 0} → (X → Bool) → (X → Bool) → ℕ → List X → Bool
is_opened opens seals zero xs = list_any opens xs
is_opened opens seals (suc s) xs = is_opened opens seals s (past opens seals xs)

abbrev pub opens_one : Opening → Entry → Bool
opens_one o e = opens_window made_call o.op o.begin_at e

abbrev pub seals_one : Opening → Entry → Bool
seals_one o e = seals_window made_call o.op e

-- the instructions of window s so far, and those up to its opening
abbrev pub made_in : Opening → ℕ → List Entry → List Entry
made_in o s js = inside (opens_one o) (seals_one o) s js

abbrev pub made_before : Opening → ℕ → List Entry → List Entry
made_before o s js = up_to (opens_one o) (seals_one o) s js

-- The windows that have closed.
pub record AreClosedWindows (image : Image) (o : Opening) (js : List Entry) (windows : List Window) : Type 0 where
  pub closed : (s : ℕ) → s < length windows → is_closed (opens_one o) (seals_one o) s js ≡ true
  pub holds : (s : ℕ) (window : Window) → slice_get windows s ≡ Some window → Holds image o.op (map made_call (made_before o s js)) (made_in o s js) window

-- Where the run stands behind so many windows: before the next one, inside it, or behind the session's last one.
pub data RunStands (image : Image) (o : Opening) (m : Measurements) (js : List Entry) (count : ℕ) (present : Window) : Type 0 where
  outside : m.state.stage ≡ unmeasured → count ≡ length m.shelved → is_opened (opens_one o) (seals_one o) count js ≡ false
      → ((before : List (Option MonitorCall)) → Holds image o.op before [] present) → RunStands image o m js count present
  within : m.state.stage ≡ measuring → count ≡ length m.shelved → is_opened (opens_one o) (seals_one o) count js ≡ true
      → is_closed (opens_one o) (seals_one o) count js ≡ false → made_before o count js ++ made_in o count js ≡ js
      → Holds image o.op (map made_call (made_before o count js)) (made_in o count js) present → RunStands image o m js count present
  finished : m.state.stage ≡ sealed → count ≡ length m.shelved + 1 → is_due o m.state.serial ≡ false → RunStands image o m js count present

-- Of a run with this journal, which has measured so much.
pub record Collects (image : Image) (o : Opening) (m : Measurements) (js : List Entry) (collection : Collection) : Type 0 where
  pub cells : Held (start_cells image) (map made_call js) (cells_of collection.cells.words.items)
  pub few : length collection.cells.words.items ≤ 65536
  pub closed : AreClosedWindows image o js collection.closed.items
  pub stands : RunStands image o m js (length collection.closed.items) collection.present

-- What one more instruction adds to a collection, by whether a window was open before it and is open behind it.
abbrev pub CollectsEntry : Image → ℕ → ShownEntry → (was_inside is_inside : Bool) → Collection → Collection → Type 0
CollectsEntry image op shown was_inside is_inside old new =
    (o : Opening) (m next : Measurements) (js : List Entry) (e : Entry) → ShowsEntry shown e → o.op ≡ op → measured_on o m (made_call e) ≡ Ok next
    → (IsTrue was_inside ↔ (m.state.stage ≡ measuring)) → (IsTrue is_inside ↔ (next.state.stage ≡ measuring))
    → Collects image o m js old → Collects image o next (js ++ e ∷ []) new

-- What is held of a window of a device's run.
abbrev pub HoldsThere : Image → ℕ → DeviceRun → ℕ → Window → Type 0
HoldsThere image op device s window =
    Holds image op (calls_before (window_opening device) s (run_so_far device)) (window_of (window_opening device) s (run_so_far device)) window

-- All windows of a run that sealed.
pub record AreWindows (image : Image) (o : Opening) (run : Run) (windows : List Window) : Type 0 where
  pub counted : length windows ≡ length (sealed_bodies o run.measurements)
  pub holds : (s : ℕ) (window : Window) → slice_get windows s ≡ Some window → Holds image o.op (calls_before o s run) (window_of o s run) window

-- A device on its way through the run of its case, behind so many instructions or at the end of the run, with what has been collected of it.
pub record IsCollected (image : Image) (device : DeviceRun) (collection : Collection) (made : ℕ) : Type 0 where
  pub journal : List Entry
  pub later : List Entry
  pub journal_is : (run_so_far device).journal ≡ journal ++ later
  pub collects : Collects image (window_opening device) (run_so_far device).measurements journal collection
  pub within : device.turns ≤ device.case.steps
  pub stands : ((device.turns ≡ made) × (later ≡ [])) ⊎ (device.turns ≡ device.case.steps)
