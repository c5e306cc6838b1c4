mod Distinct
mod Globals
pub mod Elements
mod Labels
pub mod Programs
mod Places
mod Codes
mod Finding
mod Names
mod SourceNames
mod CallSites
mod Counting
mod SiteRows
mod Sites
mod SourceSites
mod Worked
