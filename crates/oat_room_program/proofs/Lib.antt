pub mod Interpreting
mod Building
