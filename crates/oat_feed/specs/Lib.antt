pub mod RecordBytes
pub mod Counts
pub mod RecordPlaces
pub mod Verdict
pub mod Standing
