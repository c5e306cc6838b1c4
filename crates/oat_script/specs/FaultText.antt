-- The words of the faults of an owner's script (docs/FORMATS.md, "Texts").
use Rattle.std.specs.Prelude.{ℕ, List, codes}
use Rattle.oat_script.specs.{declared.fault.ScriptFaultKind.ScriptFaultKind, declared.fault.ScriptFaultKind.TheVariants.Token, declared.fault.ScriptFaultKind.TheVariants.Number}
use Rattle.oat_script.specs.{declared.fault.ScriptFaultKind.TheVariants.Twice, declared.fault.ScriptFaultKind.TheVariants.Order}

abbrev pub script_fault_word : ScriptFaultKind → List ℕ
script_fault_word Token = codes "Token"
script_fault_word Number = codes "Number"
script_fault_word Twice = codes "Twice"
script_fault_word Order = codes "Order"
