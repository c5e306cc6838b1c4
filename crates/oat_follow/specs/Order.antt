-- Calls of the monitor that keep order, as those of a source do, and what follows for the windows of a run.
use Rattle.std.specs.{Prelude.◌≡◌, Prelude.ℕ, Prelude.ℤ, Prelude.Bool, Prelude.true, Prelude.List, Prelude.◌++◌, Prelude.map, Prelude.Option, Prelude.Some, Prelude.None, List.All, List.filter_map}
use Rattle.oat_journal.specs.{Body, Write, Cells, SourceEvent, enters, leaves, loads, stores, Passes, CellValue, is_closed, Image, Edge, MonitorCall, Opening, Measured.HasBody, Measured.IsCalledFor}
use Rattle.oat_journal.specs.{Measured.dev, Measured.start_cells, Run.Entry, Run.bare, Run.journal, Uses.CheckedUse, Uses.IsSound, Uses.uses_behind, Window.made_call, Window.opens_window}
use Rattle.oat_journal.specs.{Window.seals_window, Window.up_to_window, Window.window}
use Rattle.oat_measure.specs.declared.call.MonitorCall.TheVariants as svc

-- the source event that a call shows, if it shows one
abbrev pub event_of_call : Option MonitorCall → Option (SourceEvent Edge)
event_of_call (Some (svc.Begin op at)) = Some (enters op)
event_of_call (Some (svc.End op)) = Some (leaves op)
event_of_call (Some (svc.Define cell value)) = Some (stores cell value)
event_of_call (Some (svc.Use cell value)) = Some (loads cell value)
event_of_call _ = None

-- From these words in the cells: no operation begins inside one, only the active one ends, and each use gives what its cell holds.
pub record KeepOrder (words : Cells) (calls : List (Option MonitorCall)) : Type 0 where
  pub active : Option ℕ
  pub cells : Cells
  pub passes : Passes None words (filter_map event_of_call calls) active cells

-- ---- the windows of a journal

-- window s of an operation that begins at this place is closed
abbrev pub is_window_closed : ℕ → ℕ → ℕ → List Entry → Bool
is_window_closed op begin_at s js = is_closed (opens_window made_call op begin_at) (seals_window made_call op) s js

-- the checked uses of the window, behind all calls before it
abbrev pub uses_in_window : Cells → ℕ → ℕ → ℕ → List Entry → List CheckedUse
uses_in_window words op begin_at s js = uses_behind words (map made_call (up_to_window made_call op begin_at s js)) (map made_call (window made_call op begin_at s js))

abbrev pub value_defined : Option MonitorCall → Option CellValue
value_defined (Some (svc.Define cell value)) = Some (record { cell = cell; value = value })
value_defined _ = None

-- from the start of the run up to the end of window s
abbrev pub defines_up_to_window : ℕ → ℕ → ℕ → List Entry → List CellValue
defines_up_to_window op begin_at s js = filter_map (λ e. value_defined (made_call e)) (up_to_window made_call op begin_at s js ++ window made_call op begin_at s js)

abbrev pub value_found : CheckedUse → CellValue
value_found checked = record { cell = checked.cell; value = checked.found }

-- ---- what follows

-- Whatever is written, a use in any window of calls that keep order is sound.
abbrev pub OrderedUsesAreSound : Type 0
OrderedUsesAreSound =
    (words : Cells) (op begin_at s : ℕ) (js : List Entry) → KeepOrder words (map made_call js) → All IsSound (uses_in_window words op begin_at s js)

-- The monitor doesn't stop the run, and each window that the session calls for is sealed exactly where it is closed.
pub record SealsWindows (image : Image) (o : Opening) (inputs : List ℤ) (writes : List Write) (n : ℕ) : Type 0 where
  pub running : (dev image o inputs writes n).running ≡ bare image inputs writes n
  pub end : (dev image o inputs writes n).end ≡ (bare image inputs writes n).end
  pub whole : (dev image o inputs writes n).journal ≡ journal image inputs writes n
  pub seals : (s : ℕ) → IsCalledFor o s → is_window_closed o.op o.begin_at s (journal image inputs writes n) ≡ true
      → (body : Body) × HasBody o (dev image o inputs writes n) s body
  pub sealed : (s : ℕ) (body : Body) → HasBody o (dev image o inputs writes n) s body → is_window_closed o.op o.begin_at s (journal image inputs writes n) ≡ true

-- A run whose calls keep order is measured to its end.
abbrev pub OrderedRunsAreSealed : Type 0
OrderedRunsAreSealed =
    (image : Image) (o : Opening) (inputs : List ℤ) (writes : List Write) (n : ℕ)
    → KeepOrder (start_cells image) (map made_call (journal image inputs writes n)) → SealsWindows image o inputs writes n
