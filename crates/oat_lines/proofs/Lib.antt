mod Cuts
mod Digits
pub mod Decimals
pub mod Hexadecimals
pub mod Cutting
pub mod Steps
pub mod Integers
mod DigitsFilled
pub mod LowerDigits
