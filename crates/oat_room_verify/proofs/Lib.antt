pub mod Verifying
mod Settling
mod Digits
mod Retracing
pub mod Policing
