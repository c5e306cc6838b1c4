-- Honest runs: a window in which each return goes back to the site of its call is a walk, and its blob is accepted (docs/PROMISES.md).
use Rattle.std.specs.{Prelude.◌≡◌, Prelude.◌↔◌, Prelude.◌≤◌, Prelude.◌<◌, Prelude.ℕ, Prelude.ℤ, Prelude.List, Prelude.[], Prelude.length, Prelude.None, Prelude.IfSome, List.All}
use Rattle.oat_journal.specs.{next_pc, Body, IsBlobOf, Session, Write, chain, Image, IsWellFormedImage, Step, Walk, path_of, bits_of, targets_of, returns_of, path_limit, Run.Entry, Run.AreGiven}
use Rattle.oat_journal.specs.{BeginsAt, Uses.IsSound, Window.executed_path, Window.bits_of_run, Window.targets_of_run, Window.returns_of_run, Measured.HasBody, Measured.Run, Measured.dev}
use Rattle.oat_journal.specs.{Measured.window_of, Measured.uses_of, Measured.opening_of, Trace.IsTrace, GoesBack, turn_of}
use Rattle.oat_verify.specs.{IsShaped, Verdict.Accepts, Verdict.IsVerdict, Verdict.subject_of, Verdict.head_of, declared.verdict.Verdict.Verdict, declared.verdict.Verdict.TheVariants.Accept}
use Rattle.oat_attest.specs.{Headline.IsSetting, Lockstep.ExecutesWalk}

-- A window executes a walk of the operation, shows its path and its records, and has at least one instruction for each step.
pub record IsWalkOf (image : Image) (op : ℕ) (window : List Entry) : Type 0 where
  pub steps : List Step
  pub walk : Walk image.map op steps
  pub executes : ExecutesWalk image op steps walk window
  pub path : executed_path image.map op window ≡ path_of steps
  pub bits : bits_of (path_of steps) ≡ bits_of_run window
  pub targets : targets_of (path_of steps) ≡ targets_of_run window
  pub returns : returns_of (path_of steps) ≡ returns_of_run window
  pub short : length steps ≤ length window

-- A trace that goes back as it called is a walk: for every image with the shape, from behind the call that opens the operation's window.
abbrev pub TracesAreWalks : Type 0
TracesAreWalks =
    (image : Image) (op begin_at : ℕ) (window : List Entry) → IsWellFormedImage image → IsShaped image → BeginsAt image.map op begin_at
    → IsTrace image.code op (next_pc begin_at) window → GoesBack turn_of [] (executed_path image.map op window) → IsWalkOf image op window

-- the windows of a run on an image that were sealed, whatever was given and written, and whose executed path goes back as it called
abbrev pub OfHonestRuns : ((image : Image) → Session → ℕ → ℕ → Run → ℕ → Body → Type 0) → Type 0
OfHonestRuns claim =
    (image : Image) (session : Session) (begin_at : ℕ) → IsSetting image session begin_at
    → (inputs : List ℤ) (writes : List Write) (n s : ℕ) (body : Body) → AreGiven inputs writes
    → let o = opening_of image session begin_at in
    let run = dev image o inputs writes n in
    HasBody o run s body → GoesBack turn_of [] (executed_path image.map session.op (window_of o s run)) → claim image session begin_at n run s body

-- The window is that of a walk, with the records in its body, and with no more steps than the run has instructions.
pub record IsWalkOfRun (image : Image) (session : Session) (begin_at n : ℕ) (run : Run) (s : ℕ) (body : Body) : Type 0 where
  pub walk : IsWalkOf image session.op (window_of (opening_of image session begin_at) s run)
  pub bits : bits_of (path_of walk.steps) ≡ body.bits
  pub targets : targets_of (path_of walk.steps) ≡ body.targets
  pub hash : body.head.hash ≡ chain (head_of (subject_of image session) body.head.serial) (returns_of (path_of walk.steps))
  pub within : length walk.steps ≤ n

abbrev pub HonestRunsWalk : Type 0
HonestRunsWalk = OfHonestRuns IsWalkOfRun

-- a session that numbers its windows has one
abbrev pub CallsForOne : Session → Type 0
CallsForOne session = IfSome session.calls (λ calls. 0 < calls)

-- Honest runs are accepted: without a violation, and after at most so many instructions as a walk may have steps, the blob of a body is accepted with its window's executed path.
abbrev pub HonestRunsAreAccepted : Type 0
HonestRunsAreAccepted = OfHonestRuns (λ image session begin_at n run s body.
    CallsForOne session → body.head.violation ≡ None → n ≤ path_limit → (bytes : List ℕ) → IsBlobOf body session.key bytes
    → Accepts (subject_of image session) bytes (executed_path image.map session.op (window_of (opening_of image session begin_at) s run)))

-- The same as `verify` sees it: where each checked use was sound, the one verdict on the blob is the acceptance of the executed path.
abbrev pub SoundRunsAreAccepted : Type 0
SoundRunsAreAccepted = OfHonestRuns (λ image session begin_at n run s body.
    CallsForOne session → All IsSound (uses_of image (opening_of image session begin_at) s run) → n ≤ path_limit → (bytes : List ℕ) → IsBlobOf body session.key bytes
    → (v : Verdict)
    → IsVerdict (subject_of image session) bytes v ↔ (v ≡ Accept (executed_path image.map session.op (window_of (opening_of image session begin_at) s run))))
