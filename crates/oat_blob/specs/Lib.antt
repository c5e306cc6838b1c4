unfoldable pub use Rattle.oat_hmac.specs.Hmac.{hmac}
pub mod Body
pub mod Layout
pub mod Parts
pub mod Faults
pub mod Laws
pub mod Shown
