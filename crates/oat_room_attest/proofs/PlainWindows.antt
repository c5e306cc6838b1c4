-- The texts of a window's JSON line are plain, and what the line tells of a verdict.
use Rattle.std.proofs.Common.{◌≡◌, ℕ, List, ◌∷◌, length, map, Option, Some, None, Bor, refl, sym, codes, []}
use Rattle.std.specs.{Prelude.is_some, Prelude.slice_get, List.AllByRecursion, Option.option_copied, Slice.IsItemAt}
use Rattle.std.proofs.lemmas.Option.{slice_get_past, slice_get_read}
use Rattle.oat_journal.specs.declared.end.DeviceEnd.TheVariants.{Fault}
use Rattle.oat_report.specs.declared.json_report.Report.{Report}
use Rattle.oat_report.proofs.{PlainTexts.is_plain, PlainTexts.plain_text, PlainTexts.plain_append, PlainTexts.plain_hexadecimal, PlainLines.line_is_plain}
use Rattle.oat_shown.specs.{FaultKind, Access, Fetch, Undefined, TrapKind, DivZero, Index, NullCall, Depth, InputEnd, Edge, Image, IsWellFormedImage, DeviceEnd, Halted, Trap, Stopped, OutOfSteps}
use Rattle.oat_shown.specs.{StopKind, Nested, WrongEnd, hexadecimal, Verdict, Accept, Refuse, edge_line, IsPlainText, cause_member, is_accepted, json_text, RunText.trap_text}
use Rattle.oat_shown.specs.{RunText.machine_fault_text, RunText.stop_text, RunText.end_text}
use Rattle.oat_room_attest.specs.Json.{accepted_lines}

-- ---- the texts are plain

trap_is_plain : (kind : TrapKind) → IsPlainText (trap_text kind)
unfolding is_plain
trap_is_plain DivZero = plain_text (codes "DivZero") refl
trap_is_plain Index = plain_text (codes "Index") refl
trap_is_plain NullCall = plain_text (codes "NullCall") refl
trap_is_plain Depth = plain_text (codes "Depth") refl
trap_is_plain InputEnd = plain_text (codes "InputEnd") refl

fault_is_plain : (kind : FaultKind) → IsPlainText (machine_fault_text kind)
unfolding is_plain
fault_is_plain (Access address) = plain_append (codes "Access ") (hexadecimal 16 address) (plain_text (codes "Access ") refl) (plain_hexadecimal 16 address)
fault_is_plain (Fetch address) = plain_append (codes "Fetch ") (hexadecimal 16 address) (plain_text (codes "Fetch ") refl) (plain_hexadecimal 16 address)
fault_is_plain (Undefined address) =
    plain_append (codes "Undefined ") (hexadecimal 16 address) (plain_text (codes "Undefined ") refl) (plain_hexadecimal 16 address)

stop_is_plain : (kind : StopKind) → IsPlainText (stop_text kind)
unfolding is_plain
stop_is_plain Nested = plain_text (codes "Nested") refl
stop_is_plain WrongEnd = plain_text (codes "WrongEnd") refl

pub end_is_plain : (end : DeviceEnd) → IsPlainText (end_text end)
unfolding is_plain
end_is_plain Halted = plain_text (codes "halted") refl
end_is_plain (Trap kind) = plain_append (codes "trap ") (trap_text kind) (plain_text (codes "trap ") refl) (trap_is_plain kind)
end_is_plain (Fault kind) = plain_append (codes "fault ") (machine_fault_text kind) (plain_text (codes "fault ") refl) (fault_is_plain kind)
end_is_plain (Stopped kind) = plain_append (codes "stopped ") (stop_text kind) (plain_text (codes "stopped ") refl) (stop_is_plain kind)
end_is_plain OutOfSteps = plain_text (codes "steps") refl

path_is_plain : (image : Image) → IsWellFormedImage image → (path : List Edge) → AllByRecursion IsPlainText (map (edge_line image.map) path)
path_is_plain image formed [] = tt
path_is_plain image formed (edge ∷ path) = (line_is_plain image formed edge, path_is_plain image formed path)

pub accepted_is_plain : (image : Image) → IsWellFormedImage image → (verdict : Option Verdict) → AllByRecursion IsPlainText (accepted_lines image.map verdict)
accepted_is_plain image formed None = tt
accepted_is_plain image formed (Some (Accept path)) = path_is_plain image formed path
accepted_is_plain image formed (Some (Refuse cause)) = tt

-- ---- what a line tells of a verdict

pub looked_up : (verdicts : List Verdict) (s : ℕ) (found : Option (Bor Verdict)) → IsItemAt verdicts s found → option_copied found ≡ slice_get verdicts s
looked_up verdicts s None item = sym (slice_get_past verdicts s item.3)
looked_up verdicts s (Some verdict) item = sym (slice_get_read verdicts (length verdicts) s verdict.now refl item.3.0 item.1)

pub json_alike : (r s : Report) → is_some r.verdict ≡ is_some s.verdict → is_accepted r.verdict ≡ is_accepted s.verdict
    → cause_member r.verdict ≡ cause_member s.verdict → r.end ≡ s.end → r.outputs ≡ s.outputs → r.path ≡ s.path → r.serial ≡ s.serial
    → json_text r ≡ json_text s
json_alike r s sealed accepted cause end outputs path serial = cc
