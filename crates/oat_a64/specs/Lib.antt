unfoldable pub use Rattle.oat_bits.specs.Bits.{bits_in}
unfoldable pub use Rattle.oat_bits.specs.Packed.{packed}
pub use Rattle.oat_bits.specs.Words.{difference, shifted_left, shifted_right_signed, signed, signed_quotient, signed_remainder, unsigned_quotient, unsigned_remainder, wrap}
pub use Rattle.oat_mem.specs.DataMemory.{IsBytes, Regions, global_address}
unfoldable pub use Rattle.oat_mem.specs.DataMemory.{byte_at, can_access, fits, with_bytes, with_word, word_in}
pub mod Table
pub mod Fetch
pub mod Laws
pub mod Step
pub mod Kinds
