pub use Rattle.oat_mem.specs.DataMemory.{global_address, global_base, global_size}
unfoldable pub use Rattle.oat_mem.specs.DataMemory.{byte_at, can_access, fits, with_bytes, with_word, word_in}
unfoldable pub use Rattle.oat_a64.specs.Fetch.{inst_of}
pub use Rattle.oat_a64.specs.Kinds.{is_measured, is_transfer}
pub use Rattle.oat_a64.specs.Step.{Effect, Machine, Regs, act, acts, branch_target, decodes, difference, first_regs, holds, instruction_at, next_pc, reg, reg_or_sp, shifted_left, signed, with_bits}
pub use Rattle.oat_a64.specs.Step.{with_flags, with_reg, word_at, wrap}
unfoldable pub use Rattle.oat_a64.specs.Step.{step}
pub use Rattle.oat_a64.specs.Table.{Word}
pub use Rattle.oat_a64.specs.declared.event.Event.{Event}
pub use Rattle.oat_a64.specs.declared.event.FaultKind.TheVariants.{Fetch, Undefined}
pub use Rattle.oat_a64.specs.declared.inst.Inst.{Inst}
pub use Rattle.oat_a64.specs.declared.inst.Inst.TheVariants.{AddReg, B, BCond, Bl, Blr, Brk, Cbnz, Cbz, Ldr, LdrReg, Movk, Movz, Ret, Str, StrReg, SubsReg, Svc}
pub use Rattle.oat_map.specs.EdgeName.{EdgeName, name_of}
pub use Rattle.oat_map.specs.Rows.{BeginsAt, IsIndirectTarget, IsOperation, address_of, after, entries_of, is_call, is_called_at, is_returned_to, next, row_over, start}
pub use Rattle.oat_map.specs.Stack.{IsStack}
pub use Rattle.oat_map.specs.Turns.{GoesBack, turn_of}
pub use Rattle.oat_map.specs.Walk.{Leads, Returns, RowGoes, Step, Walk, bit_of, bits_of, call_count, depth, edge_of, moved, passed, path_limit, path_of, return_count, return_of, return_site_of}
pub use Rattle.oat_map.specs.Walk.{returns_of, target_of, targets_of}
pub use Rattle.oat_map.specs.declared.edge.Edge.{Edge}
pub use Rattle.oat_map.specs.declared.map.Function.{Function}
pub use Rattle.oat_map.specs.declared.map.Map.{Map}
pub use Rattle.oat_map.specs.declared.row.Row.{Row}
pub use Rattle.oat_map.specs.declared.row.Row.TheVariants.{Begin, Branch, Call, Check, DefAt, DefCell, End, ICall, Jump, UseAt, UseCell}
pub use Rattle.oat_image.specs.Grammar.{IsIndex, IsWellFormedImage, image_text}
pub use Rattle.oat_image.specs.Worked.{one_jump}
pub use Rattle.oat_image.specs.declared.image.Image.{Image}
pub use Rattle.oat_image.specs.declared.image.InitWord.{InitWord}
pub use Rattle.oat_case.specs.Laws.{WritesCanBeMade}
pub use Rattle.oat_case.specs.Limits.{IsInLimits, IsWellFormedCase, RisesFrom, calls_fit}
pub use Rattle.oat_case.specs.declared.case.Case.{Case}
pub use Rattle.oat_case.specs.declared.case.Session.{Session}
pub use Rattle.oat_case.specs.declared.case.Write.{Write}
pub use Rattle.oat_measure.specs.{Agrees, Body, CellValue, Cells, DiffersAt, Finish, IsBlobOf, Passes, SourceEvent, SourceKeeps, SourceMachine, beyond, defined, edge_taken, end_after, enters}
pub use Rattle.oat_measure.specs.{events_after, halted, has_completed, inside, is_closed, is_entered, is_left, leaves, link, load_in, loads, loads_of_call, of_shown, output_in, outputs, outputs_of}
pub use Rattle.oat_measure.specs.{past, path_of_call, shown_from, state_after, store_in, stores, stores_up_to_call, stretch, takes, through, trapped, up_to, window_head}
unfoldable pub use Rattle.oat_measure.specs.{chain, messages}
pub use Rattle.oat_measure.specs.BodyShelf.{BodyShelf}
pub use Rattle.oat_measure.specs.Measurement.{Stage, State, after_window, before_window, booted, inside_window, measured, measuring, sealed, unmeasured, violated}
pub use Rattle.oat_measure.specs.Monitor.{call_numbered, monitor_call, opens, seals}
pub use Rattle.oat_measure.specs.Monitored.{Keeps, Monitored, cells_of, state_at}
pub use Rattle.oat_measure.specs.Shelving.{IsFirstWindow, Measurements, at_start, body_of, is_due, measured_on, reopened, sealed_bodies, serial_of, settled, shelving, with_rest, with_state}
unfoldable pub use Rattle.oat_measure.specs.Shelving.{measures}
pub use Rattle.oat_measure.specs.Transitions.{engine_shown, engine_state}
pub use Rattle.oat_measure.specs.declared.call.MonitorCall.{MonitorCall}
pub use Rattle.oat_measure.specs.declared.call.MonitorCall.TheVariants.{Use}
pub use Rattle.oat_measure.specs.declared.engine.Engine.{Engine}
pub use Rattle.oat_measure.specs.declared.opening.Opening.{Opening}
pub use Rattle.oat_measure.specs.declared.stop.StopKind.{StopKind}
pub use Rattle.oat_measure.specs.declared.stop.StopKind.TheVariants.{WrongEnd}
pub use Rattle.oat_map.specs.declared.edge.Edge.TheVariants as edges
pub use Rattle.oat_map.specs.declared.row.Row.TheVariants as rows
pub use Rattle.oat_measure.specs.declared.call.MonitorCall.TheVariants as svc
pub mod Run
pub mod Journal
pub mod Window
pub mod Uses
pub mod Measured
pub mod Trace
pub mod Progress
pub mod Worked
pub mod TurnLaws
