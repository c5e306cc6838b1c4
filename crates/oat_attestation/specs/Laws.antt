-- What follows of an attestation: its headline, that honest runs are accepted, and that none of their windows is wanting (docs/PROMISES.md).
use Rattle.std.specs.Prelude.{◌≡◌, ◌≤◌, ◌<◌, ◌⊎◌, ℕ, ℤ, true, List, [], ◌++◌, length, slice_get, Option, Some, unwrap_or}
use Rattle.oat_build.specs.{Case, Session, IsWellFormedCase, Program, IsChecked, source_events, source_of, Finish, calls_done, end_after, has_completed, outputs_of, Edge, Opening, serial_of}
use Rattle.oat_build.specs.{OutOfSteps, Run, uses_of, window_of, executed_path, EndsAs, HasEnded, ShowsTheCall, defines_up_to_window, instructions_for}
use Rattle.oat_attest.specs.{Verdict, Accept, Headline.FollowedOrClashes, Headline.calls_before}
use Rattle.oat_device.specs.DeviceRun.{IsSealed}
use Rattle.oat_attestation.specs.{declared.attested.Attested.Attested, Attestation.Attests, Attestation.TellsRun, Attestation.opening_at, Attestation.run_at}

-- the session's opening, and the run that is told
abbrev pub opening_told : {case : Case} {a : Attested} → TellsRun case a → Opening
opening_told {case} {a} told = opening_at case a told.begin_at

abbrev pub run_told : {case : Case} {a : Attested} → TellsRun case a → Run
run_told {case} {a} told = run_at case a told.begin_at

-- how many calls of its operation a session measures
abbrev pub calls_measured : Session → ℕ
calls_measured session = unwrap_or session.calls 1

-- ---- how many verdicts there are

pub record JudgesWindows (case : Case) (a : Attested) (told : TellsRun case a) : Type 0 where
  pub each : length a.verdicts ≡ length a.blobs
  pub all : IsSealed (run_told told) → length a.blobs ≡ calls_measured case.session
  pub fewer : (IsSealed (run_told told) → ⊥) → length a.blobs < calls_measured case.session

abbrev pub WindowsAreJudged : Type 0
WindowsAreJudged = (case : Case) (a : Attested) → IsWellFormedCase case → (told : TellsRun case a) → JudgesWindows case a told

-- ---- the headline

-- Whatever is written, where verdict s accepts a path, the run followed it in window s, or its returns and the path's clash.
abbrev pub RunsAreHeadlined : Type 0
RunsAreHeadlined =
    (p : Program) (case : Case) (a : Attested) (h : Attests p case a) (s : ℕ) (path : List Edge) → slice_get a.verdicts s ≡ Some (Accept path)
    → FollowedOrClashes a.shaped case.session path (serial_of (opening_told h.tells) s) (calls_before (opening_told h.tells) s (run_told h.tells)) (window_of (opening_told h.tells) s (run_told h.tells))

-- ---- honest runs

-- The end and the outputs are the source's: where it ends within k steps and the case has the instructions for these, and as soon as the run ends; and else the outputs come first in the source's.
pub record EndsAsSource (p : Program) (case : Case) (a : Attested) : Type 0 where
  pub forth : (k : ℕ) (finish : Finish) → end_after (source_of p case.inputs) k ≡ Some finish → instructions_for k ≤ case.steps → EndsAs (source_of p case.inputs) (Some a.end) a.outputs k finish
  pub back : (a.end ≡ OutOfSteps) ⊎ HasEnded (source_of p case.inputs) a.outputs case.steps a.end
  pub prefix : (rest : List ℤ) × (a.outputs ++ rest ≡ outputs_of (source_events p case.inputs case.steps))

-- A verdict on window s accepts its executed path, which is that of call s of the source: by edges and by names. The checked uses of the window are the loads of that call, each of them sound, and the defines up to its end the source's stores.
pub record AcceptsTheCall (p : Program) (case : Case) (a : Attested) (h : Attests p case a) (s : ℕ) (v : Verdict) : Type 0 where
  pub path : List Edge
  pub accepts : v ≡ Accept path
  pub executed : path ≡ executed_path a.shaped.map case.session.op (window_of (opening_told h.tells) s (run_told h.tells))
  pub completed : has_completed case.session.op s (source_events p case.inputs case.steps) ≡ true
  pub shows : (k : ℕ) → has_completed case.session.op s (source_events p case.inputs k) ≡ true
      → ShowsTheCall (source_of p case.inputs) a.shaped h.image.runs.placement case.session.op s k path
      (uses_of a.shaped (opening_told h.tells) s (run_told h.tells)) (defines_up_to_window case.session.op h.tells.begin_at s (run_told h.tells).journal)

-- The run is the source's, and each of its windows is accepted.
pub record IsHonest (p : Program) (case : Case) (a : Attested) (h : Attests p case a) : Type 0 where
  pub ends : EndsAsSource p case a
  pub accepted : (s : ℕ) (v : Verdict) → slice_get a.verdicts s ≡ Some v → AcceptsTheCall p case a h s v

abbrev pub HonestRunsAreAttested : Type 0
HonestRunsAreAttested = (p : Program) (case : Case) (a : Attested) → IsWellFormedCase case → (h : Attests p case a) → case.writes ≡ [] → IsHonest p case a h

-- ---- completeness

-- All calls that are measured are accepted.
pub record AcceptsAllCalls (p : Program) (case : Case) (a : Attested) (h : Attests p case a) : Type 0 where
  pub blobs : length a.blobs ≡ calls_measured case.session
  pub verdicts : length a.verdicts ≡ calls_measured case.session
  pub each : (s : ℕ) → s < calls_measured case.session → (v : Verdict) × (slice_get a.verdicts s ≡ Some v) × AcceptsTheCall p case a h s v

-- So it is where nothing is written, the source completes them within k steps, and the case has the instructions for these.
abbrev pub AttestationsAreComplete : Type 0
AttestationsAreComplete =
    (p : Program) (case : Case) (a : Attested) → IsChecked p → IsWellFormedCase case → (h : Attests p case a) → case.writes ≡ []
    → (k : ℕ) → calls_measured case.session ≤ calls_done case.session.op (source_events p case.inputs k) → instructions_for k ≤ case.steps → AcceptsAllCalls p case a h
