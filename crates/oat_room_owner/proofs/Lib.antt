mod Enrolling
mod Replying
pub mod Serving
