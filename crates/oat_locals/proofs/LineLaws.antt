-- The laws of lines whose operands are locals alone, for the crates above: the statements stand in specs/, each under the name of its law.
--
-- Lines with a result, inputs and outputs, and their traps.
pub use Rattle.oat_locals.proofs.Binaries.{binaries-lead, divisions-trap}
pub use Rattle.oat_locals.proofs.Plain.{consts-lead, copies-lead, inputs-lead, input-ends-trap, outputs-lead}
-- Terminators.
pub use Rattle.oat_locals.proofs.Terminators.{jumps-lead, taken-branches-lead, other-branches-lead, branches-are-apart, halts-end}
-- Conditions, words, ranges.
pub use Rattle.oat_locals.proofs.Flags.{flags-compare}
pub use Rattle.oat_locals.proofs.Sizes.{words-of-lines, lines-are-in-range}
