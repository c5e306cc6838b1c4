pub mod Refusing
pub mod Admitting
