pub mod Running
mod Tracing
