mod Parts
mod Joined
mod Fixed
mod Counted
pub mod OneLayout
mod Reading
mod Plain
mod Form
mod Sealed
