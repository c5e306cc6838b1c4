pub use Rattle.oat_mem.specs.DataMemory.{global_address}
unfoldable pub use Rattle.oat_mem.specs.DataMemory.{with_word, word_in}
pub use Rattle.oat_asm.specs.Expansion.{expanded, expansion}
pub use Rattle.oat_asm.specs.Items.{code_limit, words_needed}
pub use Rattle.oat_asm.specs.Layout.{puts}
pub use Rattle.oat_asm.specs.Ranges.{AreItemsInRange}
pub use Rattle.oat_asm.specs.declared.branch_form.BranchForm.TheVariants.{Bl}
pub use Rattle.oat_asm.specs.declared.item.Item.{Item}
pub use Rattle.oat_asm.specs.declared.item.Item.TheVariants.{Inst, Label, Mark, Note}
pub use Rattle.oat_asm.specs.declared.mark.Mark.TheVariants.{Begin, End, Ret}
pub use Rattle.oat_asm.specs.declared.note.Note.TheVariants.{Check}
pub use Rattle.oat_frames.specs.{Add, AddImm, AddReg, And, AreCallers, AreElements, AreGiven, AreNamed, Array, BCond, BeginsAt, BinOp, Binary, Block, BlockIr, Blr, BodiesAreCalledFor, Body, Brk, Call}
pub use Rattle.oat_frames.specs.{Case, Cbnz, CellWordsAreThere, Cells, CellsAreWords, CodeLine, Const, Copy, CriticalArray, Depth, DeviceEnd, Div, DivZero, Divu, Edge, EdgeName, ElementsAreNumbered}
pub use Rattle.oat_frames.specs.{Eq, Finish, Fn, FnScalar, FollowsSteps, Frame, Func, FuncKeepsRules, Function, GlobalItem, GoesBack, Halt, HasBody, HasLocal, I64, ICall, Image, Index, InitWord}
pub use Rattle.oat_frames.specs.{Input, InputEnd, Instr, IsAllowed, IsBlobOf, IsBlockIr, IsCalledFor, IsCaller, IsChecked, IsConsistent, IsFault, IsFunc, IsGlobal, IsInRange, IsInstr, IsLength}
pub use Rattle.oat_frames.specs.{IsName, IsNumbered, IsOperation, IsOperationNumber, IsProgram, IsRole, IsRow, IsShaped, IsSound, IsTerm, IsValue, IsWellFormedCase, IsWellFormedImage, KeepsRules, Ldr}
pub use Rattle.oat_frames.specs.{LdrReg, Le, Leu, LineEdge, LinePlace, Load, LoadX, Local, Lt, Ltu, MachineEvent, Main, Map, Means, Mul, Ne, Next, NullCall, Opening, Operation, OperationsOpenOnce, Or}
pub use Rattle.oat_frames.specs.{OrrReg, OutOfSteps, Output, PlaceName, Placement, Plain, Program, RefTo, Rem, Remu, Role, Row, Run, Running, RunsAs, RunsTo, Sar, Scalar, Session, ShapeFault, Shl}
pub use Rattle.oat_frames.specs.{Shr, Site, SourceEvent, SourceKeeps, SourceState, Store, StoreX, Str, StrReg, Sub, SubImm, SubsImm, Svc, Term, Turn, Turned, Ty, Values, WordsAreFew, Write}
pub use Rattle.oat_frames.specs.{WritesCanBeMade, Xor, address_of, after, are_alike, are_as, are_one_operation, assigned, at_line, block_size, branch, branches, call, call_site, calls, calls_fit}
pub use Rattle.oat_frames.specs.{cell_number, cell_values, cell_words, closes, code_base, computes, current_line, dev, device_end, does, edge_taken, end_of, ends_by, entered, enters, events_after}
pub use Rattle.oat_frames.specs.{executed_path, finishes, first_cells, first_values, func_size, gives, goes_to, halted, has_completed, has_types, have_one_operation, hold_numbers, holds_number, icall}
pub use Rattle.oat_frames.specs.{icalls, idle_program, in_array, inside, inst_makes, instruction, is_array, is_as_scalar, is_call, is_called_at, is_calling, is_entered, is_func, is_left, is_main}
pub use Rattle.oat_frames.specs.{is_main_role, is_measured, is_no_target, is_operation, is_operation_of, is_operation_role, is_over, is_referenced, is_transfer, item_ty, jump, jumps, leaves}
pub use Rattle.oat_frames.specs.{length_at, line_edge_name, line_in, line_place, line_turn, local_ty, main_number, may_name, monitors, most_words, moves, name_of, names_array, number, of_global}
pub use Rattle.oat_frames.specs.{opening_of, operation_number, operation_of, outputs, parameters, passes, path_of_call, place_name, pops, pushes, put, reads, refers_amiss, refers_to, refers_with}
pub use Rattle.oat_frames.specs.{result_at, result_of, return, returns, row_over, runs, scalar_ty, sealed_bodies, seen_at, serial_of, sets, shown_from, shows, silent, site, size_in_cells}
pub use Rattle.oat_frames.specs.{size_in_words, source_events, source_of, source_start, source_step, start_cells, start_memory, start_of, started, stays, step_limit, strays, takes, takes_in}
pub use Rattle.oat_frames.specs.{takes_numbers, terminator, trapped, traps_by, turn_of, up_to, uses_of, window_of, word_number, word_ty, word_values, writes}
pub use Rattle.oat_frames.specs.Calls.{CallSite, IsCallAt, IsFunctionAt, IsIndirectCallAt, IsReferencedAt, call_edge, prologue_end}
pub use Rattle.oat_frames.specs.Code.{CodeStands, IsHome, argument_loads, behind_call, call_code, depth_tested, home_load, home_store, icall_code, load_inst, local_stores, prologue, store_inst}
pub use Rattle.oat_frames.specs.Comes.{ComesTo, EndsWithin, StepsTo, with_result}
pub use Rattle.oat_frames.specs.Frames.{GlobalsAt, HoldsState, Home, IsAt, IsLow, IsSlotted, IsWorld, Represents, World, frame_size, home_in, home_of, line_address, register, return_address, slot}
pub use Rattle.oat_frames.specs.Leaves.{is_leaf}
pub use Rattle.oat_frames.specs.Lines.{IsBlockAt, IsLineAt, IsNumberLocal, lines_code, on_next_line, words_before_line}
pub use Rattle.oat_frames.specs.Moments.{jumped, next_moment}
pub use Rattle.oat_frames.specs.Phases.{HasSlots}
pub use Rattle.oat_frames.specs.Returns.{IsReturnOf, main_frame, return_edge}
pub use Rattle.oat_frames.specs.edges as edges
pub use Rattle.oat_frames.specs.ends as ends
pub use Rattle.oat_frames.specs.inst as inst
pub use Rattle.oat_frames.specs.rows as rows
pub use Rattle.oat_frames.specs.svc as svc
pub mod Code
pub mod Scalars
pub mod Elements
pub mod Operations
pub mod Sizes
pub mod Worked
