pub mod Lists
pub mod Orders
mod WordBounds
mod Views
mod Spacing
pub mod Assembling
mod Grounds
mod Rows
mod Rules
mod Naming
pub mod Building
pub mod Making
