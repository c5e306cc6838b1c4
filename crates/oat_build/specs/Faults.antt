-- A fault of the assembler as one of the compiler.
use Rattle.oat_match.specs.{AsmFault}
use Rattle.oat_build.specs.{declared.fault.BuildFault.BuildFault, declared.fault.BuildFault.TheVariants.CodeTooLarge, declared.fault.BuildFault.TheVariants.Memory}
use Rattle.oat_asm.specs.declared.assembled.AsmFault.TheVariants as asm

abbrev pub fault_of : AsmFault → BuildFault
fault_of (asm.CodeTooLarge words) = CodeTooLarge words
fault_of asm.Memory = Memory
