pub use Rattle.oat_map.specs.Rows.{BeginsAt, IsOperation}
pub use Rattle.oat_map.specs.Turns.{GoesBack, turn_of}
pub use Rattle.oat_map.specs.declared.edge.Edge.{Edge}
pub use Rattle.oat_asm.specs.Items.{code_limit}
pub use Rattle.oat_ir.specs.Size.{most_words}
pub use Rattle.oat_ir.specs.declared.program.Program.{Program}
pub use Rattle.oat_check.specs.Rules.{IsChecked, has_operation}
pub use Rattle.oat_check.specs.RunLaws.{CallsAreCounted}
pub use Rattle.oat_check.specs.Runs.{source_events, source_of}
pub use Rattle.oat_check.specs.Steps.{LineEdge}
pub use Rattle.oat_match.specs.{AreGiven, BodiesAreCalledFor, Body, Case, DeviceEnd, EndsAs, Finish, HasBody, HasEnded, IsBlobOf, IsCalledFor, IsSound, IsWellFormedCase, Means, Opening, OutOfSteps}
pub use Rattle.oat_match.specs.{Placement, Run, RunShowsTheCall, Session, ShowsTheCall, Write, WritesCanBeMade, calls_done, calls_fit, defines_up_to_window, dev, device_end, end_after, end_of}
pub use Rattle.oat_match.specs.{executed_path, has_completed, instructions_for, opening_of, outputs_of, sealed_bodies, serial_of, uses_of, window_of}
pub mod Addresses
pub mod Listing
pub mod Naming
pub mod Built
pub mod Faults
