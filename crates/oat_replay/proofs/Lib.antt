mod OneAnswer
pub mod OneStuck
pub mod ReplayLemmas
mod RowSearch
mod TurnLemmas
mod WalkSoFar
