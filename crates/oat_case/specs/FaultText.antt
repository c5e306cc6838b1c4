-- The words of the faults of a case text (docs/FORMATS.md, "Texts").
use Rattle.std.specs.Prelude.{ℕ, List, codes}
use Rattle.oat_case.specs.{declared.fault.CaseFaultKind.CaseFaultKind, declared.fault.CaseFaultKind.TheVariants.Token, declared.fault.CaseFaultKind.TheVariants.Missing}
use Rattle.oat_case.specs.{declared.fault.CaseFaultKind.TheVariants.Twice, declared.fault.CaseFaultKind.TheVariants.Range, declared.fault.CaseFaultKind.TheVariants.Order}
use Rattle.oat_case.specs.{declared.fault.CaseFaultKind.TheVariants.OutsideData}

abbrev pub case_fault_word : CaseFaultKind → List ℕ
case_fault_word Token = codes "Token"
case_fault_word Missing = codes "Missing"
case_fault_word Twice = codes "Twice"
case_fault_word Range = codes "Range"
case_fault_word Order = codes "Order"
case_fault_word OutsideData = codes "OutsideData"
