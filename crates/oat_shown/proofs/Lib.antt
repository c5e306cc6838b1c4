pub mod Windowing
mod Lines
mod PathLines
