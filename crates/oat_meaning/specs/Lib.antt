pub mod Activations
pub mod Globals
pub mod Made
pub mod Recording
pub mod SourceRun
pub mod Standing
