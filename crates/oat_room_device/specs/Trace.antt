-- `trace IMAGE CASE`: the first refusal of an input, or the lines of the measured run, and for each window that it sealed what it did there beside the
-- verdict on the window's blob (docs/FORMATS.md).
use Rattle.std.specs.{Prelude.◌≡◌, Prelude.◌+◌, Prelude.ℕ, Prelude.List, Prelude.[], Prelude.◌∷◌, Prelude.◌++◌, Prelude.length, Prelude.map, Prelude.Option, Prelude.Some, Prelude.None, List.flat_map}
use Rattle.oat_chain.specs.{Clash.bytes_of, declared.message.Clash.Clash}
use Rattle.oat_watch.specs.{declared.watched.CheckedUse.CheckedUse, declared.watched.WatchedWindow.WatchedWindow, Watching.HasItsVerdict, Watching.OfEach, Watching.Parts, Watching.ShowsWindow}
use Rattle.oat_inputs.specs.Admits.{Admits}
use Rattle.oat_shown.specs.{Image, Map, BeginsAt, Case, opening_of, sealed_bodies, use_text, same_text, apart_text, verdict_text, Verdict, Accept, Refuse, line, Answer, shows, File, Report.path_text}
use Rattle.oat_shown.specs.{Windows.ended_with, Windows.want_text, Windows.window_number}
use Rattle.oat_room_device.specs.Device.{run_lines, run_of}

-- ---- the part of a window

abbrev pub use_line : CheckedUse → List ℕ
use_line used = line (use_text used.cell used.found used.defined)

-- after an acceptance, whether the returns of the run are those of the accepted path
abbrev pub parting_text : Verdict → Option Clash → List ℕ
parting_text (Accept path) None = line same_text
parting_text (Accept path) (Some clash) = line (apart_text (bytes_of clash.first) (bytes_of clash.second))
parting_text (Refuse cause) apart = []

-- the verdict, then what the run did in the window
abbrev pub part_text : Map → Option ℕ → WatchedWindow → List ℕ
part_text flow number shown =
    line (verdict_text number shown.verdict) ++ path_text flow shown.path ++ flat_map use_line shown.uses.items ++ parting_text shown.verdict shown.apart

-- the parts of windows, of which the first is window s
abbrev pub parts_from : Map → Option ℕ → ℕ → List WatchedWindow → List ℕ
parts_from flow calls s [] = []
parts_from flow calls s (shown ∷ others) = part_text flow (window_number calls s) shown ++ parts_from flow calls (s + 1) others

-- the verdicts on windows
abbrev pub verdicts_on : List WatchedWindow → List Verdict
verdicts_on windows = map (λ shown. shown.verdict) windows

-- ---- the answer

-- All windows of the case's run that sealed, each with its executed path and checked uses, the verdict on its blob, and where its returns part from those of
-- the accepted path.
pub record AreTraced (image : Image) (case : Case) (begin_at : ℕ) (windows : List WatchedWindow) : Type 0 where
  pub counted : length windows ≡ length (sealed_bodies (opening_of image case.session begin_at) (run_of image case begin_at).measurements)
  pub shown : OfEach windows (ShowsWindow image (opening_of image case.session begin_at) (run_of image case begin_at))
  pub judged : OfEach windows (HasItsVerdict image case.session begin_at (run_of image case begin_at))
  pub parted : OfEach windows (Parts image case.session (opening_of image case.session begin_at) (run_of image case begin_at))

-- The run of the case on the image is shown, with the part of each window.
pub record TracesCase (image : Image) (case : Case) (a : Answer) : Type 0 where
  pub begin_at : ℕ
  pub begins : BeginsAt image.map case.session.op begin_at
  pub windows : List WatchedWindow
  pub traced : AreTraced image case begin_at windows
  pub is : a ≡ shows (ended_with case.session.calls (verdicts_on windows))
      (run_lines (run_of image case begin_at) ++ parts_from image.map case.session.calls 0 windows)
      (want_text (ended_with case.session.calls (verdicts_on windows)))

abbrev pub Traces : List File → Answer → Type 0
Traces (image ∷ case ∷ []) a = Admits image case TracesCase a
Traces _ a = ⊥
