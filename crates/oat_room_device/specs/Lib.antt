pub use Rattle.oat_chain.specs.Clash.{bytes_of}
pub use Rattle.oat_chain.specs.declared.message.Clash.{Clash}
pub use Rattle.oat_watch.specs.Shown.{use_of}
pub use Rattle.oat_watch.specs.Watching.{FoundDefined, HasItsVerdict, OfEach, PartsFrom}
pub use Rattle.oat_watch.specs.declared.watched.CheckedUse.{CheckedUse}
pub use Rattle.oat_watch.specs.declared.watched.WatchedWindow.{WatchedWindow}
pub mod Device
pub mod Trace
