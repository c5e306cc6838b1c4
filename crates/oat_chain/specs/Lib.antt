pub mod Chain
pub mod Clash
pub mod Standing
pub mod Laws
