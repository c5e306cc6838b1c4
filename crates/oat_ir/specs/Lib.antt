pub use Rattle.oat_map.specs.Name.{IsName, IsNameByte, is_name, read_name}
pub use Rattle.oat_map.specs.declared.row.Row.TheVariants.{End}
pub mod Distinct
pub mod Indices
pub mod Laws
pub mod Size
pub mod WellFormed
pub mod WorkedPrograms
