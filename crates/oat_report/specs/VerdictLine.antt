-- The line of a verdict (docs/FORMATS.md, "Commands, texts and statuses").
use Rattle.std.specs.{Prelude.ℕ, Prelude.List, Prelude.◌++◌, Prelude.Option, Prelude.Some, Prelude.None, Prelude.codes, Fmt.decimal, Fmt.signed_decimal, Int.w64, Int.cast_signed}
use Rattle.oat_verify.specs.{Violation, ReplayCause, BitsEnd, TargetsEnd, BadTarget, Underflow, EndInside, Nested, WrongEnd, OffCode, BitsLeft, TargetsLeft, PathLimit, declared.verdict.Cause.Cause}
use Rattle.oat_verify.specs.{declared.verdict.Verdict.Verdict, declared.verdict.Verdict.TheVariants.Accept, declared.verdict.Verdict.TheVariants.Refuse}
use Rattle.oat_report.specs.PathLine.{space, address_digits}
use Rattle.oat_verify.specs.declared.verdict.Cause.TheVariants as causes

-- a value of the device as a signed number
abbrev pub value_text : ℕ → List ℕ
value_text value = signed_decimal (cast_signed w64 value)

abbrev pub replay_text : ReplayCause → List ℕ
replay_text BitsEnd = codes "BitsEnd"
replay_text TargetsEnd = codes "TargetsEnd"
replay_text (BadTarget target) = codes "BadTarget " ++ address_digits target
replay_text Underflow = codes "Underflow"
replay_text EndInside = codes "EndInside"
replay_text Nested = codes "Nested"
replay_text WrongEnd = codes "WrongEnd"
replay_text OffCode = codes "OffCode"
replay_text (BitsLeft count) = codes "BitsLeft " ++ decimal count
replay_text (TargetsLeft count) = codes "TargetsLeft " ++ decimal count
replay_text PathLimit = codes "PathLimit"

abbrev pub violation_text : Violation → List ℕ
violation_text violation =
    codes "critical " ++ decimal violation.cell ++ space ++ value_text violation.expected ++ space ++ value_text violation.found

-- the serial number that a blob carries, or a dash
abbrev pub serial_text : Option ℕ → List ℕ
serial_text None = codes "-"
serial_text (Some serial) = decimal serial

abbrev pub cause_text : Cause → List ℕ
cause_text (causes.Form offset) = codes "form " ++ decimal offset
cause_text causes.Mac = codes "mac"
cause_text causes.Nonce = codes "nonce"
cause_text (causes.Serial serial) = codes "serial " ++ serial_text serial
cause_text causes.Operation = codes "operation"
cause_text causes.Image = codes "image"
cause_text (causes.Replay cause turn) = codes "replay " ++ decimal turn ++ space ++ replay_text cause
cause_text causes.Hash = codes "hash"
cause_text (causes.Critical violation) = violation_text violation

-- an acceptance says which window it is of, where windows are numbered
abbrev pub acceptance_text : Option ℕ → List ℕ
acceptance_text None = codes "accept"
acceptance_text (Some serial) = codes "accept " ++ decimal serial

-- the line without its line end, on a blob with such a serial number
abbrev pub verdict_text : Option ℕ → Verdict → List ℕ
verdict_text serial (Accept path) = acceptance_text serial
verdict_text serial (Refuse cause) = codes "refuse " ++ cause_text cause
