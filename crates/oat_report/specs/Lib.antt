pub use Rattle.oat_lines.specs.Decimal.{capped, is_decimal_digit, numeral_of}
pub use Rattle.oat_lines.specs.Faults.{Fails, Gives}
pub use Rattle.oat_lines.specs.Fields.{IsField, is_visible, spaced}
unfoldable pub use Rattle.oat_lines.specs.Fields.{cut}
unfoldable pub use Rattle.oat_lines.specs.Hexadecimal.{hexadecimal}
pub use Rattle.oat_lines.specs.Lines.{TextWord, has_bytes, is_blank, is_comment, sole}
unfoldable pub use Rattle.oat_lines.specs.Lines.{lines_of, words_of}
pub use Rattle.oat_lines.specs.Reading.{between, guard, ◌>>=◌}
pub use Rattle.oat_lines.specs.declared.fault.Fault.{Fault}
pub use Rattle.oat_lines.specs.declared.fault.Fault.TheVariants.{At}
pub use Rattle.oat_map.specs.EdgeName.{EdgeName, PlaceName, Site, block_name, branch, call, call_site, finish, function_below, icall, jump, name_of, place_name, return, site, stray}
pub use Rattle.oat_map.specs.declared.edge.Edge.{Edge}
pub use Rattle.oat_map.specs.declared.map.Map.{Map}
pub use Rattle.oat_map.specs.declared.edge.Edge.TheVariants as edges
pub mod PathLine
pub mod Counting
pub mod SameLines
pub mod VerdictLine
pub mod TraceLine
pub mod WorkedLines
pub mod SourceLine
pub mod JsonLine
pub mod JsonData
