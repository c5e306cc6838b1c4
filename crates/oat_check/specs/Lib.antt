pub use Rattle.oat_bits.specs.Words.{difference, shifted_left, shifted_right_signed, signed, signed_quotient, signed_remainder, wrap}
pub use Rattle.oat_events.specs.{IsName, NullCall, is_name}
pub use Rattle.oat_events.specs.Cuts.{Cut, cut_up, taken_up, takes_up}
pub use Rattle.oat_events.specs.Events.{SourceEvent, enters, is_entered, is_left, leaves, loads, outputs, stores, takes}
pub use Rattle.oat_events.specs.Source.{Finish, SourceMachine, calls_done, edge_taken, halted, has_completed, load_in, output_in, outputs_of, path_of_call, shown_from, state_after, stretch, trapped}
pub use Rattle.oat_events.specs.Windows.{beyond, through}
pub use Rattle.oat_ir.specs.Distinct.{are_one_global, are_one_local, are_one_operation, have_one_label, have_one_name, have_one_operation}
pub use Rattle.oat_ir.specs.Indices.{HasLocal, IsInstr, IsTerm}
pub use Rattle.oat_ir.specs.Size.{block_size, func_size, most_words}
pub use Rattle.oat_ir.specs.WellFormed.{IsBlockIr, IsFunc, IsGlobal, IsLocal, IsProgram, IsRole}
pub use Rattle.oat_ir.specs.WorkedPrograms.{idle, idle_main, idle_program, numbers}
pub use Rattle.oat_ir.specs.declared.func.BlockIr.{BlockIr}
pub use Rattle.oat_ir.specs.declared.func.Func.{Func}
pub use Rattle.oat_ir.specs.declared.func.Local.{Local}
pub use Rattle.oat_ir.specs.declared.func.Role.{Role}
pub use Rattle.oat_ir.specs.declared.func.Role.TheVariants.{Main, Operation, Plain}
pub use Rattle.oat_ir.specs.declared.func.Ty.{Ty}
pub use Rattle.oat_ir.specs.declared.func.Ty.TheVariants.{Fn, I64}
pub use Rattle.oat_ir.specs.declared.instr.BinOp.{BinOp}
pub use Rattle.oat_ir.specs.declared.instr.BinOp.TheVariants.{Add, And, Div, Divu, Eq, Le, Leu, Lt, Ltu, Mul, Ne, Or, Rem, Remu, Sar, Shl, Shr, Sub, Xor}
pub use Rattle.oat_ir.specs.declared.instr.Instr.{Instr}
pub use Rattle.oat_ir.specs.declared.instr.Instr.TheVariants.{Binary, Call, Const, Copy, ICall, Input, Load, LoadX, Output, RefTo, Store, StoreX}
pub use Rattle.oat_ir.specs.declared.instr.Term.{Term}
pub use Rattle.oat_ir.specs.declared.instr.Term.TheVariants.{Halt}
pub use Rattle.oat_ir.specs.declared.program.GlobalItem.{GlobalItem}
pub use Rattle.oat_ir.specs.declared.program.GlobalItem.TheVariants.{Array, CriticalArray, FnScalar, Scalar}
pub use Rattle.oat_ir.specs.declared.program.Program.{Program}
pub use Rattle.oat_ir.specs.declared.source.CriticalLoad.{CriticalLoad}
pub use Rattle.oat_ir.specs.declared.source.SourceEdge.{SourceEdge}
pub use Rattle.oat_ir.specs.declared.source.SourceEdge.TheVariants.{Branch, End, Jump, Ret}
pub use Rattle.oat_ir.specs.declared.source.SourceEnd.{SourceEnd}
pub use Rattle.oat_ir.specs.declared.source.SourceEnd.TheVariants.{Halted, OutOfSteps}
pub use Rattle.oat_ir.specs.declared.source.SourceSite.{SourceSite}
pub use Rattle.oat_ir.specs.declared.instr.Instr.TheVariants as instr
pub mod Active
pub mod Globals
pub mod Keeping
pub mod Lines
pub mod Naming
pub mod Operators
pub mod Places
pub mod RuleLaws
pub mod Rules
pub mod RunLaws
pub mod Runs
pub mod Shown
pub mod Steps
pub mod Worked
pub mod WorkedPrograms
