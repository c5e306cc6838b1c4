pub mod Interpret
pub mod Build
