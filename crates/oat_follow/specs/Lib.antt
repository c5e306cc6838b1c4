pub use Rattle.oat_a64.specs.{signed}
pub use Rattle.oat_events.specs.Cells.{Cells}
pub use Rattle.oat_events.specs.Events.{SourceEvent, enters, is_entered, is_left, leaves, outputs, takes}
pub use Rattle.oat_events.specs.Source.{Finish, SourceKeeps, edge_taken, events_after, halted, has_completed, path_of_call, shown_from, trapped}
pub use Rattle.oat_events.specs.Windows.{inside, up_to}
pub use Rattle.oat_measure.specs.Shelving.{sealed_bodies, serial_of}
pub use Rattle.oat_measure.specs.declared.call.MonitorCall.{MonitorCall}
pub use Rattle.oat_measure.specs.declared.opening.Opening.{Opening}
pub use Rattle.oat_journal.specs.{Body, Case, IsBlobOf, IsWellFormedCase, Session, Write, WritesCanBeMade, calls_fit}
pub use Rattle.oat_journal.specs.Measured.{BodiesAreCalledFor, HasBody, IsCalledFor, Run, dev, end_of, opening_of, start_cells, uses_of, window_of}
pub use Rattle.oat_journal.specs.Run.{AreGiven, Running, found, makes, start_memory, started, with_input, with_output}
pub use Rattle.oat_journal.specs.Uses.{IsSound}
pub use Rattle.oat_journal.specs.Window.{edge_over, executed_path}
pub use Rattle.oat_journal.specs.declared.end.DeviceEnd.{DeviceEnd}
pub use Rattle.oat_journal.specs.declared.end.DeviceEnd.TheVariants.{OutOfSteps}
pub use Rattle.oat_journal.specs.declared.end.DeviceEnd.TheVariants as ends
pub use Rattle.oat_journal.specs.rows as rows
pub use Rattle.oat_measure.specs.declared.call.MonitorCall.TheVariants as svc
pub mod Events
pub mod Placement
pub mod Reaching
pub mod Steps
pub mod Order
pub mod Following
pub mod Worked
