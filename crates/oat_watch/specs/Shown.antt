-- What is shown of a window while its run goes on (docs/DEFINITIONS.md, "The run beside its verdict").
use Rattle.std.specs.Prelude.{◌≡◌, ◌++◌, ◌∷◌, ℕ, List, [], Option, map}
use Rattle.oat_attest.specs.{Image, MonitorCall, cells_of, start_cells, Entry, CheckedUse, Held, uses_behind, executed_path, made_call, returns_of_run}
use Rattle.oat_device.specs.{Advancing.ShowsEntry, declared.entry.Entry.Entry as ShownEntry}
use Rattle.oat_watch.specs.{declared.watched.CheckedUse.CheckedUse as ShownUse, declared.window.Window.Window}

abbrev pub use_of : ShownUse → CheckedUse
use_of used = record { cell = used.cell; found = used.found; defined = used.defined }

-- The path, returns and checked uses of these instructions, behind the calls that were made before them.
pub record Holds (image : Image) (op : ℕ) (before : List (Option MonitorCall)) (made : List Entry) (window : Window) : Type 0 where
  pub path : window.path.items ≡ executed_path image.map op made
  pub returns : window.returns.items ≡ returns_of_run made
  pub uses : map use_of window.uses.items ≡ uses_behind (start_cells image) before (map made_call made)

-- What one more instruction adds to a window, where the cells hold what they were last defined as.
abbrev pub AddsEntry : Image → ℕ → ShownEntry → List ℕ → Window → Window → Type 0
AddsEntry image op shown words old new =
    (before : List (Option MonitorCall)) (made : List Entry) (e : Entry) → ShowsEntry shown e
    → Held (start_cells image) (before ++ map made_call made) (cells_of words)
    → Holds image op before made old → Holds image op before (made ++ e ∷ []) new
