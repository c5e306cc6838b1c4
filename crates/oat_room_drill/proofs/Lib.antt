mod Making
pub mod Drilling
