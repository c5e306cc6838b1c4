pub mod Fitting
pub mod Giving
pub mod Making
pub mod Passing
pub mod Resuming
pub mod Runs
pub mod Starting
pub mod StepSizes
pub mod Stepping
pub mod Words
mod Worked
