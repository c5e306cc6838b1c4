pub use Rattle.oat_mem.specs.DataMemory.{global_address}
unfoldable pub use Rattle.oat_mem.specs.DataMemory.{with_word, word_in}
pub use Rattle.oat_a64.specs.Fetch.{fits_signed}
unfoldable pub use Rattle.oat_a64.specs.Fetch.{inst_of, is_word}
pub use Rattle.oat_a64.specs.Kinds.{is_measured, is_transfer}
pub use Rattle.oat_a64.specs.Step.{Machine, Regs, act, code_base, difference, fault, goes_on, holds, loads, reg, set, shifted_left, shifted_right, shifted_right_signed, signed_quotient, stores}
pub use Rattle.oat_a64.specs.Step.{unsigned, unsigned_quotient, with_bits, with_flags, with_reg, wrap}
pub use Rattle.oat_a64.specs.Table.{IsInRange, word_of}
pub use Rattle.oat_a64.specs.declared.event.FaultKind.TheVariants.{Access}
pub use Rattle.oat_a64.specs.declared.inst.Inst.{Inst}
pub use Rattle.oat_a64.specs.declared.inst.Inst.TheVariants.{AddImm, AddReg, AndReg, Asrv, B, BCond, Bl, Blr, Brk, Cbnz, Csinc, EorReg, Ldr, LdrReg, Lslv, Lsrv, Madd, Movk, Movz, Msub, OrrReg, Ret}
pub use Rattle.oat_a64.specs.declared.inst.Inst.TheVariants.{Sdiv, Str, StrReg, SubImm, SubReg, SubsImm, SubsReg, Svc, Udiv}
pub use Rattle.oat_asm.specs.{AreElements, BeginsAt, Block, Depth, DivZero, Edge, EdgeName, Function, GoesBack, Image, Index, InitWord, InputEnd, IsFault, IsLength, IsName, IsOperation}
pub use Rattle.oat_asm.specs.{IsOperationNumber, IsRow, IsShaped, IsWellFormedImage, Map, NullCall, OperationsOpenOnce, PlaceName, Row, ShapeFault, Site, Stands, Turn, Turned, address_of, after}
pub use Rattle.oat_asm.specs.{branch, call, call_site, group_end, icall, is_call, is_called_at, is_over, jump, name_of, place_name, pops, pushes, return, row_over, signed_remainder, site, starts_of}
pub use Rattle.oat_asm.specs.{stays, strays, turn_of, unsigned_remainder}
pub use Rattle.oat_asm.specs.Expansion.{element_test, expanded}
pub use Rattle.oat_asm.specs.Items.{words_needed}
pub use Rattle.oat_asm.specs.Layout.{puts}
pub use Rattle.oat_asm.specs.Ranges.{AreItemsInRange}
pub use Rattle.oat_asm.specs.Standing.{IsOver}
pub use Rattle.oat_asm.specs.declared.item.Item.{Item}
pub use Rattle.oat_check.specs.{Add, And, Array, BinOp, Binary, BlockIr, Call, Const, Copy, CriticalArray, Div, Divu, Eq, Fn, FnScalar, Func, GlobalItem, Halt, HasLocal, I64, ICall, Input, Instr}
pub use Rattle.oat_check.specs.{IsBlockIr, IsFunc, IsGlobal, IsInstr, IsProgram, IsRole, IsTerm, Le, Leu, Load, LoadX, Local, Lt, Ltu, Main, Mul, Ne, Operation, Or, Output, Plain, Program, RefTo, Rem}
pub use Rattle.oat_check.specs.{Remu, Role, Sar, Scalar, Shl, Shr, Store, StoreX, Sub, Term, Ty, Xor, are_one_operation, block_size, func_size, have_one_operation, idle_program, most_words}
pub use Rattle.oat_check.specs.Active.{first_cells, line_turn}
pub use Rattle.oat_check.specs.Globals.{Values, cell_number, cell_values, cell_words, first_values, length_at, of_global, put, size_in_cells, size_in_words, start_of, word_number, word_values}
pub use Rattle.oat_check.specs.Keeping.{AreCallers, IsCaller, IsConsistent, IsValue, is_referenced, item_ty, may_name, refers_to, word_ty}
pub use Rattle.oat_check.specs.Lines.{CodeLine, instruction, is_calling, line_in, terminator}
pub use Rattle.oat_check.specs.Naming.{line_edge_name}
pub use Rattle.oat_check.specs.Operators.{divided, number, result_of, truth}
pub use Rattle.oat_check.specs.RuleLaws.{FuncKeepsRules, IsAllowed, KeepsRules}
pub use Rattle.oat_check.specs.Rules.{IsChecked, are_alike, are_as, has_types, hold_numbers, holds_number, is_array, is_as_scalar, is_func, is_main, is_main_role, is_no_target, is_operation}
pub use Rattle.oat_check.specs.Rules.{is_operation_of, is_operation_role, local_ty, names_array, parameters, passes, refers_amiss, refers_with, scalar_ty, takes_numbers}
pub use Rattle.oat_check.specs.RunLaws.{CellWordsAreThere, CellsAreWords, ElementsAreNumbered, IsNumbered, WordsAreFew}
pub use Rattle.oat_check.specs.Runs.{main_number, source_events, source_of, source_start}
pub use Rattle.oat_check.specs.Steps.{Frame, LineEdge, LinePlace, Next, SourceState, assigned, at_line, branches, calls, closes, computes, current_line, does, ends_by, entered, finishes, gives}
pub use Rattle.oat_check.specs.Steps.{goes_to, icalls, in_array, jumps, line_place, operation_number, operation_of, reads, result_at, returns, runs, sets, shows, silent, source_step, takes_in}
pub use Rattle.oat_check.specs.Steps.{traps_by, writes}
pub use Rattle.oat_follow.specs.{AreGiven, BodiesAreCalledFor, Body, Case, Cells, DeviceEnd, Finish, HasBody, IsBlobOf, IsCalledFor, IsSound, IsWellFormedCase, MonitorCall, Opening, OutOfSteps, Run}
pub use Rattle.oat_follow.specs.{Running, Session, SourceEvent, SourceKeeps, Write, WritesCanBeMade, calls_fit, dev, edge_over, edge_taken, end_of, enters, events_after, executed_path, halted}
pub use Rattle.oat_follow.specs.{has_completed, inside, is_entered, is_left, leaves, makes, opening_of, outputs, path_of_call, sealed_bodies, serial_of, shown_from, signed, start_cells, start_memory}
pub use Rattle.oat_follow.specs.{started, takes, trapped, up_to, uses_of, window_of}
pub use Rattle.oat_follow.specs.Events.{MachineEvent, monitors, moves, prints, told_by}
pub use Rattle.oat_follow.specs.Following.{Means, RunsAs}
pub use Rattle.oat_follow.specs.Placement.{AreNamed, Placement, seen_at}
pub use Rattle.oat_follow.specs.Reaching.{RunsTo, inst_makes}
pub use Rattle.oat_follow.specs.Steps.{FollowsSteps, device_end, step_limit}
pub use Rattle.oat_asm.specs.edges as edges
pub use Rattle.oat_follow.specs.ends as ends
pub use Rattle.oat_a64.specs.declared.inst.Inst.TheVariants as inst
pub use Rattle.oat_follow.specs.rows as rows
pub use Rattle.oat_follow.specs.svc as svc
pub mod Moments
pub mod Frames
pub mod Leaves
pub mod Comes
pub mod Code
pub mod Phases
pub mod Calls
pub mod Returns
pub mod Lines
pub mod Readied
pub mod Worked
