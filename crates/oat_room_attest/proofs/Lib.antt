pub mod Attesting
pub mod WindowLines
mod PlainWindows
