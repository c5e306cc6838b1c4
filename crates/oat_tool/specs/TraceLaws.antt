-- What the statuses of `trace` say of the defined outcome (docs/PROMISES.md).
use Rattle.std.specs.{Prelude.◌≡◌, Prelude.◌↔◌, Prelude.ℕ, Prelude.true, Prelude.false, Prelude.List, Prelude.[], Prelude.◌∷◌, List.All}
use Rattle.oat_attest.specs.Headline.{Followed, calls_before}
use Rattle.oat_words.specs.Commands.{IsLine, files_of}
use Rattle.oat_room_device.specs.{WatchedWindow, FoundDefined, OfEach, Device.run_of, Trace.Traces, Trace.TracesCase, Trace.parting_text, Trace.verdicts_on}
use Rattle.oat_room_attest.specs.{Contents, IsOne, Edge, opening_of, window_of, IsEdgeOf, same_text, Accept, Image, Case, Outcome, line, Answer, as_outcome, File, AreLoaded, AreAdmitted, are_few}
use Rattle.oat_room_attest.specs.{refuses_one}
use Rattle.oat_tool.specs.{Defined.Defined, DefinedLaws.IsOfWork}
use Rattle.oat_words.specs.declared.command.Command.TheVariants as commands

-- ---- `same`

-- The run followed a path in its window, as an acceptance claims it; the path that is shown is this one, and each use line shows one value twice.
pub record ShowsFollowed (image : Image) (case : Case) (begin_at s : ℕ) (shown : WatchedWindow) (path : List Edge) : Type 0 where
  pub followed : Followed image case.session.op path (calls_before (opening_of image case.session begin_at) s (run_of image case begin_at))
      (window_of (opening_of image case.session begin_at) s (run_of image case begin_at))
  pub path_is : shown.path ≡ path
  pub uses_agree : All FoundDefined shown.uses.items

-- Where the part of a window ends with `same`, its blob is accepted, and the run followed the accepted path.
abbrev pub SameIsFollowed : (image : Image) (case : Case) (begin_at s : ℕ) (shown : WatchedWindow) → Type 0
SameIsFollowed image case begin_at s shown = parting_text shown.verdict shown.apart ≡ line same_text
    → (path : List Edge) × (shown.verdict ≡ Accept path) × ShowsFollowed image case begin_at s shown path

-- ---- the statuses

-- The files that the words name hold a shaped image and a case for one of its operations, and the outcome is what is defined of the case's run beside
-- the verdicts on its windows: with status 7 exactly where fewer windows sealed than the case calls for, else with status 1 exactly where a verdict
-- refuses, and else with status 0. Each path that is shown has edges of the map alone, so that its lines tell it; and a part that ends with `same` is
-- that of a window in which the run followed the accepted path.
pub record IsTracedRun (words : List (List ℕ)) (contents : Contents) (o : Outcome) : Type 0 where
  pub image : File
  pub case : File
  pub held : AreLoaded contents (files_of words commands.Trace) (image ∷ case ∷ [])
  pub i : Image
  pub c : Case
  pub admitted : AreAdmitted image case i c
  pub answer : Answer
  pub traces : TracesCase i c answer
  pub is : o ≡ as_outcome answer
  pub leaves_unsealed : o.status ≡ 7 ↔ (are_few c.session.calls (verdicts_on traces.windows) ≡ true)
  pub rejects : o.status ≡ 1 ↔ ((are_few c.session.calls (verdicts_on traces.windows) ≡ false) × (refuses_one (verdicts_on traces.windows) ≡ true))
  pub accepts : o.status ≡ 0 ↔ ((are_few c.session.calls (verdicts_on traces.windows) ≡ false) × (refuses_one (verdicts_on traces.windows) ≡ false))
  pub edges : OfEach traces.windows (λ s shown. All (IsEdgeOf i.map) shown.path)
  pub same : OfEach traces.windows (SameIsFollowed i c traces.begin_at)

-- A status of work is that of the traced run.
abbrev pub TraceIsShown : Type 0
TraceIsShown = (words : List (List ℕ)) (contents : Contents) (o : Outcome) → IsLine words commands.Trace → Defined words contents o
    → IsOfWork o.status → IsTracedRun words contents o

-- Files have one answer.
abbrev pub OneTrace : Type 0
OneTrace = (files : List File) → IsOne Answer (Traces files)
