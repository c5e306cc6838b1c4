pub use Rattle.oat_a64.specs.{IsBytes, global_address}
unfoldable pub use Rattle.oat_a64.specs.{can_access, fits, with_bytes, with_word, word_in}
unfoldable pub use Rattle.oat_a64.specs.Fetch.{inst_of}
pub use Rattle.oat_a64.specs.Kinds.{is_transfer}
pub use Rattle.oat_a64.specs.Step.{Effect, IsBounded, Machine, Regs, act, acts, decodes, first_regs, holds, instruction_at, next_pc, reg, reg_or_sp, set, signed, unsigned, with_reg, word_at, wrap}
unfoldable pub use Rattle.oat_a64.specs.Step.{step}
pub use Rattle.oat_a64.specs.declared.event.Event.{Event}
pub use Rattle.oat_a64.specs.declared.inst.Inst.{Inst}
pub use Rattle.oat_a64.specs.declared.inst.Inst.TheVariants.{B, BCond, Brk, Cbnz, Cbz, Ldr, LdrReg, Movz, Str, StrReg, Svc}
pub use Rattle.oat_chain.specs.Chain.{DiffersAt, link, window_head}
unfoldable pub use Rattle.oat_chain.specs.Chain.{chain, messages}
pub use Rattle.oat_blob.specs.Body.{Body}
pub use Rattle.oat_blob.specs.Layout.{IsBlobOf}
pub use Rattle.oat_blob.specs.declared.body.Violation.{Violation}
pub use Rattle.oat_events.specs.{Depth, DivZero, Edge, Index, InputEnd, Map, NullCall, Row, TrapKind, is_called_at, is_returned_to, row_over}
pub use Rattle.oat_events.specs.Cells.{Cells, defined}
pub use Rattle.oat_events.specs.Events.{Passes, SourceEvent, enters, is_entered, is_left, leaves, loads, outputs, stores, takes}
pub use Rattle.oat_events.specs.Source.{CellValue, Finish, SourceKeeps, SourceMachine, edge_taken, end_after, events_after, halted, has_completed, load_in, loads_of_call, output_in, outputs_of}
pub use Rattle.oat_events.specs.Source.{path_of_call, shown_from, state_after, store_in, stores_up_to_call, stretch, trapped}
pub use Rattle.oat_events.specs.Windows.{Agrees, beyond, inside, is_closed, of_shown, past, through, up_to}
pub mod Monitor
pub mod Measurement
pub mod Shelving
pub mod Monitored
pub mod Running
pub mod Transitions
pub mod BodyShelf
