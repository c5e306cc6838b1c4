pub use Rattle.oat_map.specs.EdgeName.{EdgeName, PlaceName, Site}
pub use Rattle.oat_map.specs.Name.{IsName, is_name}
pub use Rattle.oat_map.specs.Rows.{is_called_at, is_returned_to, row_over}
pub use Rattle.oat_map.specs.Turns.{GoesBack, Turn, Turned, pops, pushes, stays}
pub use Rattle.oat_map.specs.declared.edge.Edge.{Edge}
pub use Rattle.oat_map.specs.declared.map.Map.{Map}
pub use Rattle.oat_map.specs.declared.row.Row.{Row}
pub use Rattle.oat_map.specs.declared.trap.TrapKind.{TrapKind}
pub use Rattle.oat_map.specs.declared.trap.TrapKind.TheVariants.{Depth, DivZero, Index, InputEnd, NullCall}
pub use Rattle.oat_map.specs.EdgeName as name
pub use Rattle.oat_map.specs.Turns as turn
pub mod Cells
pub mod Cuts
pub mod Events
pub mod Source
pub mod Windows
