mod WritesDue
mod Spacing
mod Rooms
mod Starting
mod Runs
pub mod Whole
mod Telling
mod Bodies
mod Growing
mod Advancing
pub mod DeviceLaws
pub mod Counting
