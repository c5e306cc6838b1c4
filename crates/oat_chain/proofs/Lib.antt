pub mod Lengths
pub mod Messages
mod Comparing
mod Writing
