mod Flags
mod Reached
mod Binaries
mod Plain
mod Terminators
mod Sizes
mod Worked
pub mod LineLaws
