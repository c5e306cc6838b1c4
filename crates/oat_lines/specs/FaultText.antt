-- What a refusal of a text says behind the name of its file (docs/FORMATS.md, "Texts"): the number of the line, and the
-- word for what is wrong there.
use Rattle.std.specs.Prelude.{ℕ, List, ◌++◌, codes, decimal}
use Rattle.oat_lines.specs.{declared.fault.Fault.Fault, declared.fault.Fault.TheVariants.At, declared.fault.Fault.TheVariants.Memory}

abbrev pub fault_text : {K : Type 0} → (K → List ℕ) → Fault K → List ℕ
fault_text word (At line kind) = decimal line ++ codes " " ++ word kind
fault_text word Memory = codes "Memory"
