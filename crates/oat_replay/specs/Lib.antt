unfoldable pub use Rattle.oat_blob.specs.{hmac}
pub use Rattle.oat_blob.specs.Body.{Body}
pub use Rattle.oat_blob.specs.Faults.{IsFormOffset}
pub use Rattle.oat_blob.specs.Layout.{IsBlob}
unfoldable pub use Rattle.oat_blob.specs.Layout.{covered_of}
pub use Rattle.oat_blob.specs.declared.body.BodyHead.{BodyHead}
pub use Rattle.oat_blob.specs.declared.body.Violation.{Violation}
pub mod EndTurn
pub mod Replay
pub mod StandsBehind
