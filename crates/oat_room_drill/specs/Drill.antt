-- `drill N`: a program and a case are made from the number, the program is built, its run is measured, and its blob is judged (docs/FORMATS.md, "Drill"). Which image it is stays open.
use Rattle.std.specs.{Prelude.◌≡◌, Prelude.ℕ, Prelude.List, Prelude.◌∷◌, Prelude.◌++◌, Prelude.None, Prelude.Some, Prelude.length, Prelude.slice_get, Prelude.codes, Prelude.true, Prelude.[]}
use Rattle.std.specs.{Fmt.decimal}
use Rattle.hex.specs.Hex.{encode_lower}
use Rattle.sha2.specs.Sha256.{sha256}
use Rattle.oat_make.specs.{Drill.drill_program, Text.drill_case}
use Rattle.oat_build.specs.{has_operation}
use Rattle.oat_attestation.specs.{declared.attested.Attested.Attested, Attestation.Attests}
use Rattle.oat_shown.specs.{Case, IsWellFormedCase, Verdict, verdict_text, line, Answer, shows, Report.path_in, Report.path_text, Report.ended_of, Edge, Accept}

-- the number, how many outputs and path lines there are, the digest of these lines, and the verdict's line
abbrev pub drill_report : ℕ → ℕ → ℕ → List ℕ → Verdict → List ℕ
drill_report n outputs edges digest verdict =
    line (codes "drill " ++ decimal n)
    ++ line (codes "outputs " ++ decimal outputs)
    ++ line (codes "path " ++ decimal edges)
    ++ line (codes "digest " ++ encode_lower digest)
    ++ line (verdict_text None verdict)

-- the number's case
pub record IsDrillCase (n : ℕ) (case : Case) : Type 0 where
  pub is : case ≡ drill_case n
  pub well_formed : IsWellFormedCase case

-- an attestation of the number's drill
pub record AttestsDrill (n : ℕ) (a : Attested) : Type 0 where
  pub attests : Attests (drill_program n) (drill_case n) a

-- The report of an attestation of the number's drill, by its first verdict.
pub record ShowsDrill (n : ℕ) (a : Answer) : Type 0 where
  pub attested : Attested
  pub drilled : AttestsDrill n attested
  pub verdict : Verdict
  pub first : slice_get attested.verdicts 0 ≡ Some verdict
  pub is : a ≡ shows (ended_of verdict)
      (drill_report n (length attested.outputs) (length (path_in verdict)) (sha256 (path_text attested.shaped.map (path_in verdict))) verdict) []

abbrev pub Drills : List ℕ → Answer → Type 0
Drills (n ∷ []) a = ShowsDrill n a
Drills _ a = ⊥

-- what the work of `drill` rests on: its case is for an operation of its program, whose code fits, and the first verdict is an acceptance
abbrev pub DrillsHaveOperation : Type 0
DrillsHaveOperation = (n : ℕ) → has_operation (drill_program n) (drill_case n).session.op ≡ true

abbrev pub FirstVerdictAccepts : Type 0
FirstVerdictAccepts = (n : ℕ) (a : Attested) → AttestsDrill n a → (path : List Edge) × (slice_get a.verdicts 0 ≡ Some (Accept path))
