-- The run beside its verdict: what is shown of each window of a run that sealed, and what the verdict on its blob says of it (docs/DEFINITIONS.md, "The run beside its verdict").
use Rattle.std.specs.{Prelude.◌≡◌, Prelude.ℕ, Prelude.List, Prelude.Option, Prelude.Some, Prelude.None, Prelude.map, Prelude.slice_get, List.All}
use Rattle.oat_attest.specs.{Body, Case, Session, bytes_of, Clash, Image, Edge, BeginsAt, returns_of, Opening, serial_of, Run, dev, opening_of, uses_of, window_of, AreGiven, executed_path}
use Rattle.oat_attest.specs.{returns_of_run, Verdict, Accept, Refuse, IsVerdict, head_of, subject_of, Headline.Clashes, Headline.IsReported}
use Rattle.oat_device.specs.DeviceRun.{DeviceRun}
use Rattle.oat_watch.specs.{declared.watched.CheckedUse.CheckedUse as ShownUse, declared.watched.WatchedWindow.WatchedWindow, Shown.use_of}

-- the run of a case on an image, whose windows open there
abbrev pub watched_run : Image → Case → ℕ → Run
watched_run image case begin_at = dev image (opening_of image case.session begin_at) case.inputs case.writes case.steps

-- what is claimed of the run of a case on an image, whose windows open where its operation begins
abbrev pub OfItsRun : Image → Case → (ℕ → Opening → Run → Type 0) → Type 0
OfItsRun image case claim =
    (begin_at : ℕ) → BeginsAt image.map case.session.op begin_at
    → claim begin_at (opening_of image case.session begin_at) (watched_run image case begin_at)

-- what is claimed of each window, by its number
abbrev pub OfEach : List WatchedWindow → (ℕ → WatchedWindow → Type 0) → Type 0
OfEach windows claim = (s : ℕ) (shown : WatchedWindow) → slice_get windows s ≡ Some shown → claim s shown

-- The executed path of a window, its returns, and its checked uses.
pub record ShowsWindow (image : Image) (o : Opening) (run : Run) (s : ℕ) (shown : WatchedWindow) : Type 0 where
  pub path : shown.path ≡ executed_path image.map o.op (window_of o s run)
  pub returns : shown.returns.items ≡ returns_of_run (window_of o s run)
  pub uses : map use_of shown.uses.items ≡ uses_of image o s run

-- The verdict is that on the blob of the window's body.
pub record HasItsVerdict (image : Image) (session : Session) (begin_at : ℕ) (run : Run) (s : ℕ) (shown : WatchedWindow) : Type 0 where
  pub body : Body
  pub bytes : List ℕ
  pub reported : IsReported image session begin_at run s body bytes
  pub judged : IsVerdict (subject_of image session) bytes shown.verdict

-- The two messages are the clash of the returns and those of a path.
abbrev pub AreClash : (head returns : List ℕ) → List Edge → Clash → Type 0
AreClash head returns path clash =
    (clashes : Clashes head returns (returns_of path)) × (clashes.first ≡ bytes_of clash.first) × (clashes.second ≡ bytes_of clash.second)

-- The returns part from those of the accepted path exactly where their clash is shown; where nothing is accepted, none is.
abbrev pub PartsFrom : (head returns : List ℕ) → Verdict → Option Clash → Type 0
PartsFrom head returns (Accept path) None = returns ≡ returns_of path
PartsFrom head returns (Accept path) (Some clash) = AreClash head returns path clash
PartsFrom head returns (Refuse cause) apart = apart ≡ None

abbrev pub Parts : Image → Session → Opening → Run → ℕ → WatchedWindow → Type 0
Parts image session o run s shown =
    PartsFrom (head_of (subject_of image session) (serial_of o s)) (returns_of_run (window_of o s run)) shown.verdict shown.apart

abbrev pub FoundDefined : ShownUse → Type 0
FoundDefined used = used.found ≡ used.defined

-- Where the blob is accepted and nothing is apart, the run took the accepted path, and each use found the defined value.
abbrev pub AgreesWithVerdict : WatchedWindow → Type 0
AgreesWithVerdict shown =
    (path : List Edge) → shown.verdict ≡ Accept path → shown.apart ≡ None → (shown.path ≡ path) × All FoundDefined shown.uses.items

-- All this of a window of the run of a case on an image, whose windows open there.
pub record IsWatched (image : Image) (case : Case) (begin_at : ℕ) (s : ℕ) (shown : WatchedWindow) : Type 0 where
  pub shows : ShowsWindow image (opening_of image case.session begin_at) (watched_run image case begin_at) s shown
  pub judged : HasItsVerdict image case.session begin_at (watched_run image case begin_at) s shown
  pub parts : Parts image case.session (opening_of image case.session begin_at) (watched_run image case begin_at) s shown
  pub agrees : AreGiven case.inputs case.writes → AgreesWithVerdict shown

-- A device has made the whole run of a case on an image.
pub record HasWholeRun (device : DeviceRun) (image : Image) (case : Case) : Type 0 where
  pub image_is : device.image ≡ image
  pub case_is : device.case ≡ case
  pub begins : BeginsAt image.map case.session.op device.begin_at
  pub turns_are : device.turns ≡ case.steps
