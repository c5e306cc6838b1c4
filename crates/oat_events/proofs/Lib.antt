mod Cutting
pub mod EventLaws
pub mod SourceLaws
mod Stacking
pub mod WindowLaws
mod Windowing
