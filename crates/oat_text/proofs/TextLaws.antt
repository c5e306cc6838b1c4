-- The laws of program texts, for the crates above: the statements stand in specs/.
pub use Rattle.oat_text.proofs.ReadBack.{text_read}
pub use Rattle.oat_text.proofs.ReadTexts.{one_program}
