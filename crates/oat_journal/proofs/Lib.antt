mod Turns
mod Linkage
mod Bounds
mod Sealing
mod Shelves
mod Traces
mod Windows
mod Progress
mod OneJump
mod TurnLaws
mod Lengths
mod Reports
pub mod RunLaws
