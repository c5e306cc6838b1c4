pub use Rattle.oat_parts.specs.Built.{CanBeExpanded}
pub use Rattle.oat_parts.specs.Making.{AreCodes, FunctionCode, IsStretch, blocks_code, blocks_words, code_from, codes_words, words_become}
pub use Rattle.oat_parts.specs.Parts.{ArePaced, CheckTest, CodePart, IsLoose, IsMadeOfParts, IsMarkOf, begun_by, check, is_met, is_set, reference, simple, skip, waits}
pub use Rattle.oat_parts.specs.Symbols.{FunctionSymbol, IsBlockLabel, IsFunctionLabel, SymbolTable}
pub mod Programs
pub mod Codes
pub mod Names
pub mod Worked
