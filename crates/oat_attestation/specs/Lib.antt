pub mod Attestation
pub mod Laws
