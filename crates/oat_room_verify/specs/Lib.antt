pub use Rattle.oat_policy.specs.FaultText.{policy_fault_word}
pub use Rattle.oat_policy.specs.Reading.{policy_of}
unfoldable pub use Rattle.oat_policy.specs.Verdict.{verdict_of}
pub use Rattle.oat_policy.specs.declared.policy.PolicyRule.{PolicyRule}
pub use Rattle.oat_policy.specs.declared.verdict.PolicyVerdict.{PolicyVerdict}
pub use Rattle.oat_policy.specs.declared.verdict.PolicyVerdict.TheVariants.{Breaks, Holds}
pub mod Verify
pub mod Settles
pub mod Policy
