-- `verify IMAGE CASE BLOB`: the first refusal of an input, or the verdict's report (docs/FORMATS.md).
use Rattle.std.specs.Prelude.{◌≡◌, ℕ, Option, List, [], ◌∷◌}
use Rattle.oat_inputs.specs.{BlobText.HasDigits, BlobText.IsBlobText, Refusals.RefusesBlob, Admits.Admits, Admits.AreAdmitted}
use Rattle.oat_shown.specs.{Image, Case, Verdict, Subject, subject_of, IsVerdict, CarriesSerial, First, Answer, File, Report.report_of}

-- The verdict on these bytes is reported, with the serial number that they carry.
pub record Concludes (subject : Subject) (bytes : List ℕ) (a : Answer) : Type 0 where
  pub verdict : Verdict
  pub right : IsVerdict subject bytes verdict
  pub serial : Option ℕ
  pub carried : CarriesSerial bytes serial
  pub reported : a ≡ report_of subject.map serial verdict

abbrev pub Verifies : List File → Answer → Type 0
Verifies (image ∷ case ∷ blob ∷ []) a =
    Admits image case (λ i c.
    First (List ℕ) Answer (IsBlobText blob.text) (RefusesBlob blob) (λ bytes. Concludes (subject_of i c.session) bytes)) a
Verifies _ a = ⊥

-- The files hold an image and a case that are admitted, and a blob of these digits.
pub record IsOpened (files : List File) (i : Image) (c : Case) (digits : List ℕ) : Type 0 where
  pub image : File
  pub case : File
  pub blob : File
  pub are : files ≡ image ∷ case ∷ blob ∷ []
  pub admitted : AreAdmitted image case i c
  pub spelled : HasDigits blob.text digits
