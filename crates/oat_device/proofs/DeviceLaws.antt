-- What holds of measured runs of more and more instructions, for the crates above: the statements stand in specs/, each under the name of its law.
pub use Rattle.oat_device.proofs.Growing.{journals_grow, measured_runs_stay}
