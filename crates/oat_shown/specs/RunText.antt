-- The lines of a run: its outputs, and then how it ended (docs/FORMATS.md).
use Rattle.std.specs.{Prelude.ℕ, Prelude.ℤ, Prelude.List, Prelude.[], Prelude.◌++◌, Prelude.Option, Prelude.None, Prelude.Some, Prelude.codes, List.flat_map, Fmt.signed_decimal}
use Rattle.oat_a64.specs.{declared.event.FaultKind.FaultKind, declared.event.FaultKind.TheVariants.Access}
use Rattle.oat_measure.specs.{TrapKind, DivZero, Index, NullCall, Depth, InputEnd, declared.stop.StopKind.TheVariants.Nested}
use Rattle.oat_journal.specs.{Fetch, Undefined, declared.end.DeviceEnd.DeviceEnd, declared.end.DeviceEnd.TheVariants.Halted, declared.end.DeviceEnd.TheVariants.Trap}
use Rattle.oat_journal.specs.{declared.end.DeviceEnd.TheVariants.Fault, declared.end.DeviceEnd.TheVariants.Stopped, declared.end.DeviceEnd.TheVariants.OutOfSteps, StopKind, WrongEnd}
use Rattle.oat_report.specs.{hexadecimal}
use Rattle.oat_page.specs.Outcome.{line}

abbrev pub trap_text : TrapKind → List ℕ
trap_text DivZero = codes "DivZero"
trap_text Index = codes "Index"
trap_text NullCall = codes "NullCall"
trap_text Depth = codes "Depth"
trap_text InputEnd = codes "InputEnd"

abbrev pub machine_fault_text : FaultKind → List ℕ
machine_fault_text (Access address) = codes "Access " ++ hexadecimal 16 address
machine_fault_text (Fetch address) = codes "Fetch " ++ hexadecimal 16 address
machine_fault_text (Undefined address) = codes "Undefined " ++ hexadecimal 16 address

abbrev pub stop_text : StopKind → List ℕ
stop_text Nested = codes "Nested"
stop_text WrongEnd = codes "WrongEnd"

abbrev pub end_text : DeviceEnd → List ℕ
end_text Halted = codes "halted"
end_text (Trap kind) = codes "trap " ++ trap_text kind
end_text (Fault kind) = codes "fault " ++ machine_fault_text kind
end_text (Stopped kind) = codes "stopped " ++ stop_text kind
end_text OutOfSteps = codes "steps"

abbrev pub output_line : ℤ → List ℕ
output_line value = line (codes "out " ++ signed_decimal value)

abbrev pub end_line : DeviceEnd → List ℕ
end_line end = line (codes "ended " ++ end_text end)

abbrev pub run_text : List ℤ → DeviceEnd → List ℕ
run_text outputs end = flat_map output_line outputs ++ end_line end

-- the last line, until it was made
abbrev pub end_left : Option DeviceEnd → List ℕ
end_left None = []
end_left (Some end) = end_line end

abbrev pub ends_left : Option DeviceEnd → ℕ
ends_left None = 0
ends_left (Some end) = 1
