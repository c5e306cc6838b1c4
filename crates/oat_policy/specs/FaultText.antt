-- The words of the faults of a policy text (docs/FORMATS.md, "Texts").
use Rattle.std.specs.Prelude.{ℕ, List, codes}
use Rattle.oat_policy.specs.{declared.fault.PolicyFaultKind.PolicyFaultKind, declared.fault.PolicyFaultKind.TheVariants.Token, declared.fault.PolicyFaultKind.TheVariants.Number}
use Rattle.oat_policy.specs.{declared.fault.PolicyFaultKind.TheVariants.TooMany}

abbrev pub policy_fault_word : PolicyFaultKind → List ℕ
policy_fault_word Token = codes "Token"
policy_fault_word Number = codes "Number"
policy_fault_word TooMany = codes "TooMany"
