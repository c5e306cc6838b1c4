pub mod FaultText
pub mod Reading
pub mod Laws
pub mod Draft
