pub mod GlobalPlaces
pub mod Marked
pub mod Code
pub mod Steps
pub mod Laws
pub mod Worked
pub mod Leaves
