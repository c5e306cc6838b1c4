-- The verdict on a blob: what is looked at, in which order, and what each answer means (docs/DEFINITIONS.md, "Verdict").
use Rattle.std.specs.Prelude.{◌≡◌, ◌<◌, ◌↔◌, ℕ, List, Option, Some, None, MatchOption}
use Rattle.sha2.specs.Sha256.{sha256}
use Rattle.oat_shape.specs.{Image, image_text, Map, Edge, returns_of, Tests}
use Rattle.oat_chain.specs.Chain.{window_head, chain}
use Rattle.oat_replay.specs.{Body, IsBlob, covered_of, IsFormOffset, hmac, Replay.IsWalked, Replay.GetsStuck, declared.cause.ReplayCause.ReplayCause}
use Rattle.oat_case.specs.declared.case.Session.{Session}
use Rattle.oat_verify.specs.{declared.verdict.Cause.Cause, declared.verdict.Verdict.Verdict, declared.verdict.Verdict.TheVariants.Accept, declared.verdict.Verdict.TheVariants.Refuse}
use Rattle.oat_verify.specs.declared.verdict.Cause.TheVariants as causes

-- what a verdict is about, beside the bytes of the blob
pub record Subject : Type 0 where
  pub map : Map
  -- SHA-256 of the image text
  pub digest : List ℕ
  pub session : Session

-- a session for an operation of an image
abbrev pub subject_of : Image → Session → Subject
subject_of image session = record { map = image.map; digest = sha256 (image_text image); session = session }

-- what a window with such a number begins with
abbrev pub head_of : Subject → Option ℕ → List ℕ
head_of s serial = window_head s.session.nonce s.session.op s.digest serial

-- a window without a number is one of a session with one window, one with a number of a session with more calls than that
abbrev pub FitsSession : (serial calls : Option ℕ) → Type 0
FitsSession None None = Unit {0}
FitsSession (Some serial) (Some calls) = serial < calls
FitsSession _ _ = ⊥

-- One thing that is looked at: where it fails its cause is the verdict, and else the rest decides.
abbrev pub Looks : (holds : Type 0) → Cause → (Verdict → Type 0) → Verdict → Type 0
Looks holds cause = Tests Verdict holds (λ v. ¬ holds × (v ≡ Refuse cause))

-- The device reports no violation, or the first one.
abbrev pub Reports : Body → List Edge → Verdict → Type 0
Reports body path v = MatchOption body.head.violation (v ≡ Accept path) (λ violation. v ≡ Refuse (causes.Critical violation))

-- What is looked at once the replay has found a path: its returns, and then the report.
abbrev pub JudgesPath : List ℕ → Body → List Edge → Verdict → Type 0
JudgesPath head body path = Looks (body.head.hash ≡ chain head (returns_of path)) causes.Hash (Reports body path)

-- The replay finds the path that has the blob's records, or gets stuck.
pub data Replays (s : Subject) (body : Body) (v : Verdict) : Type 0 where
  stuck : (cause : ReplayCause) (turn : ℕ) → GetsStuck s.map s.session.op body.bits body.targets cause turn
      → v ≡ Refuse (causes.Replay cause turn) → Replays s body v
  walked : (path : List Edge) → IsWalked s.map s.session.op body.bits body.targets path
      → JudgesPath (head_of s body.head.serial) body path v → Replays s body v

-- What is looked at in a blob, in this order: its MAC, nonce, serial number, operation and image, and
-- then the replay.
abbrev pub Judges : Subject → Body → List ℕ → Verdict → Type 0
Judges s body mac =
    Looks (mac ≡ hmac s.session.key (covered_of body)) causes.Mac (
    Looks (body.head.nonce ≡ s.session.nonce) causes.Nonce (
    Looks (FitsSession body.head.serial s.session.calls) (causes.Serial body.head.serial) (
    Looks (body.head.op ≡ s.session.op) causes.Operation (
    Looks (body.head.digest ≡ s.digest) causes.Image (
    Replays s body)))))

-- The verdict on bytes: on the blob that they are, or where they stop to be one.
pub data IsVerdict (s : Subject) (bytes : List ℕ) (v : Verdict) : Type 0 where
  blob : (body : Body) (mac : List ℕ) → IsBlob bytes body mac → Judges s body mac v → IsVerdict s bytes v
  form : (offset : ℕ) → IsFormOffset bytes offset → v ≡ Refuse (causes.Form offset) → IsVerdict s bytes v

-- The serial number that bytes carry: that of the blob that they are, or none where they are no blob.
pub data CarriesSerial (bytes : List ℕ) (serial : Option ℕ) : Type 0 where
  carried : (body : Body) (mac : List ℕ) → IsBlob bytes body mac → serial ≡ body.head.serial → CarriesSerial bytes serial
  no_blob : ((body : Body) (mac : List ℕ) → IsBlob bytes body mac → ⊥) → serial ≡ None → CarriesSerial bytes serial

-- An acceptance, said at once: a blob with the right MAC, about a window of this session and about this image, without a violation, whose
-- records are those of a walk and whose hash is the chain of the walk's returns.
pub record Accepts (s : Subject) (bytes : List ℕ) (path : List Edge) : Type 0 where
  pub body : Body
  pub mac : List ℕ
  pub is_blob : IsBlob bytes body mac
  pub right_mac : mac ≡ hmac s.session.key (covered_of body)
  pub nonce : body.head.nonce ≡ s.session.nonce
  pub serial : FitsSession body.head.serial s.session.calls
  pub operation : body.head.op ≡ s.session.op
  pub image : body.head.digest ≡ s.digest
  pub walked : IsWalked s.map s.session.op body.bits body.targets path
  pub hash : body.head.hash ≡ chain (head_of s body.head.serial) (returns_of path)
  pub clean : body.head.violation ≡ None

-- what was looked at before the replay: the replay decides, or this cause stands
abbrev pub Screens : Subject → Body → List ℕ → Option Cause → Type 0
Screens s body mac found =
    MatchOption found ((v : Verdict) → Replays s body v → Judges s body mac v) (λ cause. Judges s body mac (Refuse cause))

-- the verdict on a path where nothing, or this cause, stands against it
abbrev pub verdict_by : List Edge → Option Cause → Verdict
verdict_by path None = Accept path
verdict_by path (Some cause) = Refuse cause

-- ---- laws

-- An acceptance is a verdict, and there is no other acceptance.
abbrev pub AcceptanceAtOnce : Type 0
AcceptanceAtOnce = (s : Subject) (bytes : List ℕ) (path : List Edge) → IsVerdict s bytes (Accept path) ↔ Accepts s bytes path

-- Bytes have one verdict.
abbrev pub OneVerdict : Type 0
OneVerdict = (s : Subject) (bytes : List ℕ) (v w : Verdict) → IsVerdict s bytes v → IsVerdict s bytes w → v ≡ w

-- Bytes carry one serial number, if any.
abbrev pub OneSerial : Type 0
OneSerial = (bytes : List ℕ) (one two : Option ℕ) → CarriesSerial bytes one → CarriesSerial bytes two → one ≡ two
