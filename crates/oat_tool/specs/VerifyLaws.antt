-- What the statuses of `verify` say of the defined outcome (docs/PROMISES.md).
use Rattle.std.specs.Prelude.{◌≡◌, ◌≢◌, ℕ, Option, List, [], ◌∷◌}
use Rattle.oat_words.specs.{declared.command.Command.TheVariants.Verify, Commands.IsLine, Commands.files_of}
use Rattle.oat_room_verify.specs.Verify.{Verifies}
use Rattle.oat_room_attest.specs.{Contents, Image, Edge, Case, Verdict, Accept, Refuse, Cause, subject_of, IsVerdict, CarriesSerial, IsOne, Outcome, Answer, as_outcome, File, AreLoaded, IsBlobText}
use Rattle.oat_room_attest.specs.{AreAdmitted, report_of}
use Rattle.oat_tool.specs.Defined.{Defined}

-- The files that the words name hold a shaped image, a case for one of its operations and a blob, and the verdict on
-- the blob is this one.
pub record IsJudged (words : List (List ℕ)) (contents : Contents) (i : Image) (verdict : Verdict) : Type 0 where
  pub image : File
  pub case : File
  pub blob : File
  pub held : AreLoaded contents (files_of words Verify) (image ∷ case ∷ blob ∷ [])
  pub c : Case
  pub admitted : AreAdmitted image case i c
  pub bytes : List ℕ
  pub blob_read : IsBlobText blob.text bytes
  pub right : IsVerdict (subject_of i c.session) bytes verdict

-- A verdict was reached, and the outcome is its report, with the serial number of its blob.
pub record ReportsVerdict (words : List (List ℕ)) (contents : Contents) (verdict : Verdict) (o : Outcome) : Type 0 where
  pub image : Image
  pub judged : IsJudged words contents image verdict
  pub serial : Option ℕ
  pub carried : CarriesSerial judged.bytes serial
  pub is : o ≡ as_outcome (report_of image.map serial verdict)

-- Status 0 is an acceptance.
abbrev pub AcceptanceIsReported : Type 0
AcceptanceIsReported = (words : List (List ℕ)) (contents : Contents) (o : Outcome) → IsLine words Verify → Defined words contents o
    → o.status ≡ 0 → (path : List Edge) × ReportsVerdict words contents (Accept path) o

-- Status 1 is a verdict that refuses.
abbrev pub RefusalIsReported : Type 0
RefusalIsReported = (words : List (List ℕ)) (contents : Contents) (o : Outcome) → IsLine words Verify → Defined words contents o
    → o.status ≡ 1 → (cause : Cause) × ReportsVerdict words contents (Refuse cause) o

-- A verdict doesn't end with status 7.
abbrev pub VerdictIsSealed : Type 0
VerdictIsSealed = (words : List (List ℕ)) (contents : Contents) (o : Outcome) → IsLine words Verify → Defined words contents o → o.status ≢ 7

-- Files have one answer.
abbrev pub OneVerification : Type 0
OneVerification = (files : List File) → IsOne Answer (Verifies files)
