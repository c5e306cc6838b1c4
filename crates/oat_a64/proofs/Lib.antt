mod Offsets
mod Candidates
mod Same
pub mod FetchLemmas
pub mod StepBounds
mod Steps
