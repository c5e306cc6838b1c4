pub mod Giving
mod Loops
pub mod Seen
mod ItemWords
mod Ranges
pub mod LayoutLaws
pub mod ExpansionProofs
pub mod Standing
pub mod StandingItems
mod RangeLaws
