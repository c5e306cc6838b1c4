pub use Rattle.oat_first.specs.First.{First}
pub use Rattle.oat_world.specs.Outside.{Adds, Contents, Rose}
pub use Rattle.oat_world.specs.declared.sink.SinkFault.{SinkFault}
pub use Rattle.oat_world.specs.declared.sink.SinkFault.TheVariants as sink
pub mod Outcome
pub mod Texts
pub mod Answer
pub mod Loads
pub mod Pieces
pub mod Works
pub mod Shows
pub mod Puts
pub mod Limits
