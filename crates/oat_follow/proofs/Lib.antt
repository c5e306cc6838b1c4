mod Outputs
mod Reaching
mod Showing
mod Naming
mod Stepping
mod Ordering
mod Sounding
mod Shelving
mod Several
mod Seeing
mod OnBare
mod OnDevice
mod OneJump
pub mod FollowLaws
