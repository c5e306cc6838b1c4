pub use Rattle.oat_make.specs.Drill.{drill_program}
pub use Rattle.oat_make.specs.Laws.{DrillsAreChecked, DrillsCanBeAttested, DrillsComplete}
pub mod Drill
