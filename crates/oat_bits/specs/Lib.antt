pub mod Field
pub mod Packed
pub mod Bits
pub mod PackedLaws
pub mod Held
pub mod Words
pub mod WordLaws
