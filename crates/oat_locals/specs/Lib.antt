pub use Rattle.oat_bits.specs.Words.{unsigned, wrap}
pub use Rattle.oat_asm.specs.declared.mark.Mark.{Mark}
pub use Rattle.oat_asm.specs.declared.mark.Mark.TheVariants.{Call}
pub use Rattle.oat_check.specs.{loads, stores}
pub use Rattle.oat_frames.specs.{Inst}
pub mod Code
pub mod Lines
pub mod Terminators
pub mod Flags
pub mod Sizes
pub mod Worked
