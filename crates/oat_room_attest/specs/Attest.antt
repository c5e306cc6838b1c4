-- What a command over an attestation looks at before it shows one: the program and the case for one of its operations, and then whether the program's code
-- fits (docs/FORMATS.md).
use Rattle.std.specs.Prelude.{◌≡◌, ◌+◌, ℕ, Option, List, [], ◌∷◌, ◌++◌}
use Rattle.oat_attestation.specs.{declared.attested.Attested.Attested, Attestation.Attests}
use Rattle.oat_programs.specs.{Program, Programs.IsCheckedText, Programs.RefusesProgram, Programs.IsCaseOf, Programs.RefusesCaseOf, Programs.CodeFits, Programs.RefusesCode}
use Rattle.oat_shown.specs.{Case, Map, Verdict, First, Tests, Answer, shows, File, BlobLine.blob_line, Report.report_text, RunText.run_text, Windows.ended_with, Windows.want_text}
use Rattle.oat_shown.specs.{Windows.window_number}

-- What is attested of a program and a case is shown so.
pub record ShowsAttested (Shown : Case → Attested → Answer → Type 0) (p : Program) (c : Case) (a : Answer) : Type 0 where
  pub attested : Attested
  pub attests : Attests p c attested
  pub shown : Shown c attested a

-- The first that is refused decides, and else what is attested is shown so.
abbrev pub AttestsFiles : (Case → Attested → Answer → Type 0) → List File → Answer → Type 0
AttestsFiles Shown (program ∷ case ∷ []) a =
    First Program Answer (IsCheckedText program.text) (RefusesProgram program) (λ p.
    First Case Answer (IsCaseOf p case.text) (RefusesCaseOf p case) (λ c.
    Tests Answer (CodeFits p) (RefusesCode program p) (ShowsAttested Shown p c))) a
AttestsFiles Shown _ a = ⊥

-- The program or the case is refused.
abbrev pub RefusesFiles : List File → Answer → Type 0
RefusesFiles = AttestsFiles (λ c attested a. ⊥)

-- The files hold a checked program whose code fits, and a case for one of its operations.
pub record AreAttestable (files : List File) (p : Program) (c : Case) : Type 0 where
  pub program : File
  pub case : File
  pub are : files ≡ program ∷ case ∷ []
  pub checked : IsCheckedText program.text p
  pub given : IsCaseOf p case.text c
  pub fits : CodeFits p

-- And this is attested of both.
pub record AreAttested (files : List File) (c : Case) (attested : Attested) : Type 0 where
  pub p : Program
  pub held : AreAttestable files p c
  pub attests : Attests p c attested

-- ---- what is shown: the run lines, and for each window that sealed its blob and the verdict on it

-- the part of a window: the line of its blob, that of the verdict, and after an acceptance the path
abbrev pub window_text : Map → Option ℕ → List ℕ → Verdict → List ℕ
window_text flow number blob verdict = blob_line blob ++ report_text flow number verdict

-- the parts of windows, of which the first is window s
abbrev pub windows_from : Map → Option ℕ → ℕ → (blobs : List (List ℕ)) → List Verdict → List ℕ
windows_from flow calls s [] verdicts = []
windows_from flow calls s (blob ∷ blobs) [] = []
windows_from flow calls s (blob ∷ blobs) (verdict ∷ verdicts) =
    window_text flow (window_number calls s) blob verdict ++ windows_from flow calls (s + 1) blobs verdicts

abbrev pub attested_text : (calls : Option ℕ) → Attested → List ℕ
attested_text calls a = run_text a.outputs a.end ++ windows_from a.shaped.map calls 0 a.blobs a.verdicts

-- what is answered to what is attested of a case
abbrev pub attested_answer : Case → Attested → Answer
attested_answer c a =
    let ended = ended_with c.session.calls a.verdicts in shows ended (attested_text c.session.calls a) (want_text ended)

abbrev pub ShowsWindows : Case → Attested → Answer → Type 0
ShowsWindows c attested a = a ≡ attested_answer c attested

-- `attest PROG CASE`: the first refusal of an input, or the lines of a measured run of the case on an image of the program, and for each window that sealed
-- its blob and the verdict on it. Which image it is stays open.
abbrev pub AttestsProgram : List File → Answer → Type 0
AttestsProgram = AttestsFiles ShowsWindows
