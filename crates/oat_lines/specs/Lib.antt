pub mod Reading
pub mod Lines
pub mod Decimal
pub mod Hexadecimal
pub mod Fields
pub mod Integer
pub mod Faults
pub mod FaultText
