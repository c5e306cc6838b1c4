mod Places
pub mod Splitting
mod Listing
pub mod Sites
pub mod SameLines
pub mod PlainTexts
mod JsonTexts
pub mod PlainLines
