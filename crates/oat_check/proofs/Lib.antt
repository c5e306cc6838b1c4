pub mod Bounds
mod Cells
pub mod Checking
mod FirstIn
pub mod Frames
mod Keeping
pub mod Kept
mod Lines
mod Locals
pub mod Numbers
mod Places
mod Short
pub mod Sourcing
mod Turning
mod Worked
