mod Addresses
mod Loop
mod OneLine
mod Statements
mod Completion
mod Law
pub mod CaseTexts
mod WritesInLimits
mod WritesMade
