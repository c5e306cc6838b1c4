pub mod DeviceRun
pub mod Advancing
pub mod Telling
pub mod Standing
pub mod Records
pub mod Bare
