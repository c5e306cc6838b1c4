pub use Rattle.oat_case.specs.Limits.{key_fits, operation_fits}
pub use Rattle.oat_verify.specs.{At, Fails, Fault, Gives, TextWord, capped, guard, is_comment, is_visible, numeral_of, sole, triple, ◌>>=◌}
unfoldable pub use Rattle.oat_verify.specs.{lines_of, words_of}
pub mod Frames
pub mod Fields
pub mod Ledger
pub mod Tables
pub mod Refusal
pub mod Kept
pub mod Replies
pub mod Exchanges
pub mod Laws
