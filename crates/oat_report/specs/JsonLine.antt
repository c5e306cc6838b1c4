-- The line of an attested window as a JSON object (RFC 8259), without its line end (docs/FORMATS.md, "Commands, texts and statuses").
use Rattle.std.specs.{Prelude.◌≢◌, Prelude.◌≤◌, Prelude.ℕ, Prelude.Bool, Prelude.true, Prelude.false, Prelude.if◌then◌else◌, Prelude.List, Prelude.[], Prelude.◌∷◌, Prelude.◌++◌, Prelude.map}
use Rattle.std.specs.{Prelude.Option, Prelude.Some, Prelude.None, Prelude.is_some, Prelude.codes, List.AllByRecursion, Fmt.decimal, Fmt.signed_decimal}
use Rattle.oat_verify.specs.{declared.verdict.Verdict.Verdict, declared.verdict.Verdict.TheVariants.Accept, declared.verdict.Verdict.TheVariants.Refuse}
use Rattle.oat_report.specs.{VerdictLine.cause_text, declared.json_report.Report.Report}

-- ---- JSON without blanks

abbrev pub json_string : List ℕ → List ℕ
json_string text = 34 ∷ (text ++ 34 ∷ [])

abbrev pub json_bool : Bool → List ℕ
json_bool value = if value then codes "true" else codes "false"

-- the texts, each behind a comma
abbrev pub behind_commas : List (List ℕ) → List ℕ
behind_commas [] = []
behind_commas (text ∷ texts) = 44 ∷ (text ++ behind_commas texts)

-- the texts, with commas between them
abbrev pub with_commas : List (List ℕ) → List ℕ
with_commas [] = []
with_commas (text ∷ texts) = text ++ behind_commas texts

abbrev pub json_array : List (List ℕ) → List ℕ
json_array values = 91 ∷ (with_commas values ++ 93 ∷ [])

abbrev pub json_member : List ℕ → List ℕ → List ℕ
json_member key value = json_string key ++ 58 ∷ value

abbrev pub json_object : List (List ℕ) → List ℕ
json_object members = 123 ∷ (with_commas members ++ 125 ∷ [])

-- ---- the line of a window

abbrev pub is_accepted : Option Verdict → Bool
is_accepted (Some (Accept path)) = true
is_accepted _ = false

-- only where the verdict refuses
abbrev pub cause_member : Option Verdict → List (List ℕ)
cause_member (Some (Refuse cause)) = json_member (codes "cause") (json_string (cause_text cause)) ∷ []
cause_member _ = []

-- only where windows are numbered
abbrev pub serial_member : Option ℕ → List (List ℕ)
serial_member None = []
serial_member (Some serial) = json_member (codes "serial") (decimal serial) ∷ []

abbrev pub json_text : Report → List ℕ
json_text report = json_object (
    json_member (codes "accepted") (json_bool (is_accepted report.verdict))
    ∷ (cause_member report.verdict
    ++ json_member (codes "end") (json_string report.end)
    ∷ json_member (codes "outputs") (json_array (map signed_decimal report.outputs))
    ∷ json_member (codes "path") (json_array (map json_string report.path))
    ∷ json_member (codes "sealed") (json_bool (is_some report.verdict))
    ∷ serial_member report.serial))

-- ---- which texts stand in JSON as they are

-- a byte that is printable ASCII, and neither a quotation mark nor a backslash
pub record IsPlainByte (byte : ℕ) : Type 0 where
  pub low : 32 ≤ byte
  pub high : byte ≤ 126
  pub unquoted : byte ≢ 34
  pub unescaped : byte ≢ 92

abbrev pub IsPlainText : List ℕ → Type 0
IsPlainText = AllByRecursion IsPlainByte

-- A report's texts are plain.
pub record IsPlainReport (report : Report) : Type 0 where
  pub end : IsPlainText report.end
  pub path : AllByRecursion IsPlainText report.path
