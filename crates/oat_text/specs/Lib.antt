pub use Rattle.oat_lines.specs.Fields.{ended}
pub use Rattle.oat_lines.specs.Integer.{is_i64}
pub use Rattle.oat_ir.specs.declared.instr.Term.TheVariants.{Branch, Jump, Ret}
pub mod Bodies
pub mod FaultText
pub mod Forms
pub mod Grammar
pub mod Laws
pub mod Outline
pub mod Passes
pub mod Printing
pub mod Readings
pub mod Scoped
pub mod Words
