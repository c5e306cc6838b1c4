mod Showing
mod Accessing
mod Scalars
mod Elements
mod CriticalScalars
mod CriticalElements
mod Sizes
mod Operations
mod Ranges
mod WorkedPlaces
mod Worked
pub mod GlobalLaws
