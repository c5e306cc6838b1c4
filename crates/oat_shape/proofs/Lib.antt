mod Loops
mod Scans
mod LastGroups
mod GroupLemmas
mod Searches
mod RowRules
mod PlaceRules
mod NameRules
mod Operations
mod BrokenRules
pub mod Refusals
pub mod Laid
