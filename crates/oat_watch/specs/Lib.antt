pub mod Shown
pub mod Collecting
pub mod Watching
