pub mod NameTests
pub mod RowLemmas
pub mod StackLemmas
mod TargetLemmas
pub mod WalkLemmas
mod WorkedLemmas
mod Turning
