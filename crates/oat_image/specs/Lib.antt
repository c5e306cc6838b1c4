pub use Rattle.oat_lines.specs.Decimal.{capped, is_decimal_digit, numeral_of}
pub use Rattle.oat_lines.specs.Faults.{Fails, Gives}
pub use Rattle.oat_lines.specs.Fields.{is_visible}
pub use Rattle.oat_lines.specs.Hexadecimal.{hexadecimal_digit, is_hexadecimal_digit}
unfoldable pub use Rattle.oat_lines.specs.Hexadecimal.{hexadecimal}
pub use Rattle.oat_lines.specs.Lines.{TextWord, is_comment, sole, triple}
unfoldable pub use Rattle.oat_lines.specs.Lines.{lines_of, words_of}
pub use Rattle.oat_lines.specs.Reading.{guard, ◌>>=◌}
pub use Rattle.oat_lines.specs.declared.fault.Fault.{Fault}
pub use Rattle.oat_lines.specs.declared.fault.Fault.TheVariants.{At}
pub use Rattle.oat_map.specs.Rows.{BeginsAt, IsOperation, IsOrdered, address_of, after, begins, entries_of, is_call, is_over, next, row_over, start, starts_of, word_count}
pub use Rattle.oat_map.specs.declared.map.Block.{Block}
pub use Rattle.oat_map.specs.declared.map.Function.{Function}
pub use Rattle.oat_map.specs.declared.map.Map.{Map}
pub use Rattle.oat_map.specs.declared.row.Row.{Row}
pub use Rattle.oat_map.specs.declared.row.Row.TheVariants.{Begin, Branch, Call, Check, DefAt, DefCell, End, Jump, Ret, UseAt, UseCell}
pub mod Spelling
pub mod Grammar
pub mod Reading
pub mod Rising
pub mod LineReading
pub mod RowReading
pub mod ImageReading
pub mod Seen
pub mod Worked
pub mod Printing
pub mod Page
pub mod WellFormed
pub mod Laws
pub mod FaultText
