pub mod Limits
pub mod Grammar
pub mod Reading
pub mod Draft
pub mod Simple
pub mod FaultText
pub mod Laws
