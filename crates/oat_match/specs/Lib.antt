pub use Rattle.oat_asm.specs.Expansion.{expanded, expansion}
pub use Rattle.oat_asm.specs.ExpansionLaws.{MarksAreInRange}
pub use Rattle.oat_asm.specs.Items.{AddressesHaveRegisters, BranchesAreInRange, InstructionsAreInRange, NoMarkIsLeft, UsedLabelsStandOnce, address, code_limit, is_label, item_words, label_place}
pub use Rattle.oat_asm.specs.Items.{place, words_needed}
pub use Rattle.oat_asm.specs.Layout.{layout}
pub use Rattle.oat_asm.specs.NoteRows.{row_of}
pub use Rattle.oat_asm.specs.Standing.{IsOver, ItemsStand}
pub use Rattle.oat_asm.specs.StandingLaws.{CanBeAssembled, LabelsStandOnce, label_address}
pub use Rattle.oat_asm.specs.declared.assembled.AsmFault.{AsmFault}
pub use Rattle.oat_asm.specs.declared.assembled.Assembled.{Assembled}
pub use Rattle.oat_asm.specs.declared.assembled.LabelAt.{LabelAt}
pub use Rattle.oat_asm.specs.declared.assembled.NoteAt.{NoteAt}
pub use Rattle.oat_asm.specs.declared.branch_form.BranchForm.TheVariants.{Bl}
pub use Rattle.oat_asm.specs.declared.item.Item.{Item}
pub use Rattle.oat_asm.specs.declared.mark.Mark.{Mark}
pub use Rattle.oat_parts.specs.Built.{CanBeExpanded, built_address, built_image, in_map, in_table}
pub use Rattle.oat_parts.specs.Making.{AreCodes, FunctionCode, words_become}
pub use Rattle.oat_parts.specs.Symbols.{FunctionSymbol, SymbolTable, blocks_from, blocks_of, function_at, functions_of, operations_in}
pub use Rattle.oat_events.specs.Source.{Finish, calls_done, end_after, has_completed, outputs_of}
pub use Rattle.oat_ir.specs.Indices.{IsInstr, IsTerm}
pub use Rattle.oat_ir.specs.Size.{block_size, func_size, most_words}
pub use Rattle.oat_ir.specs.WellFormed.{IsBlockIr, IsFunc, IsGlobal, IsProgram}
pub use Rattle.oat_ir.specs.declared.func.BlockIr.{BlockIr}
pub use Rattle.oat_ir.specs.declared.func.Func.{Func}
pub use Rattle.oat_ir.specs.declared.func.Role.{Role}
pub use Rattle.oat_ir.specs.declared.func.Role.TheVariants.{Main, Operation, Plain}
pub use Rattle.oat_ir.specs.declared.instr.BinOp.{BinOp}
pub use Rattle.oat_ir.specs.declared.instr.BinOp.TheVariants.{Add, And, Div, Divu, Eq, Le, Leu, Lt, Ltu, Mul, Ne, Or, Rem, Remu, Sar, Shl, Shr, Sub, Xor}
pub use Rattle.oat_ir.specs.declared.instr.Instr.{Instr}
pub use Rattle.oat_ir.specs.declared.instr.Instr.TheVariants.{Binary, Call, Const, Copy, ICall, Input, Load, LoadX, Output, RefTo, Store, StoreX}
pub use Rattle.oat_ir.specs.declared.instr.Term.{Term}
pub use Rattle.oat_ir.specs.declared.instr.Term.TheVariants.{Branch, Halt, Jump, Ret}
pub use Rattle.oat_ir.specs.declared.program.GlobalItem.{GlobalItem}
pub use Rattle.oat_ir.specs.declared.program.GlobalItem.TheVariants.{Array, CriticalArray, FnScalar, Scalar}
pub use Rattle.oat_ir.specs.declared.program.Program.{Program}
pub use Rattle.oat_ir.specs.declared.source.SourceSite.{SourceSite}
pub use Rattle.oat_check.specs.Globals.{cell_number, cell_words, first_values, length_at, of_global, size_in_cells, size_in_words, start_of, word_values}
pub use Rattle.oat_check.specs.Keeping.{is_referenced, refers_to}
pub use Rattle.oat_check.specs.Lines.{CodeLine, instruction, is_calling, line_in, terminator}
pub use Rattle.oat_check.specs.Naming.{instrs_of, line_edge_name, site_of_line, source_block_name, source_func_name, source_site, source_site_name}
pub use Rattle.oat_check.specs.Operators.{number}
pub use Rattle.oat_check.specs.Rules.{IsChecked, has_operation, is_main, is_operation_of}
pub use Rattle.oat_check.specs.Runs.{main_number, source_of}
pub use Rattle.oat_check.specs.Steps.{LineEdge, LinePlace, branches, calls, finishes, icalls, jumps, operation_number, operation_of, returns}
pub use Rattle.oat_follow.specs.Following.{EndsAs, HasEnded, Means, RunShowsTheCall, RunsAs, ShowsTheCall}
pub use Rattle.oat_follow.specs.Order.{defines_up_to_window}
pub use Rattle.oat_follow.specs.Placement.{Placement}
pub use Rattle.oat_follow.specs.Steps.{device_end, instructions_for}
pub use Rattle.oat_frames.specs.Calls.{prologue_end}
pub use Rattle.oat_frames.specs.Code.{argument_loads, behind_call, depth_tested, home_load, icall_code, prologue}
pub use Rattle.oat_frames.specs.Frames.{Home, IsLow, World, frame_size, home_of, register, return_address, slot}
pub use Rattle.oat_frames.specs.Leaves.{is_leaf}
pub use Rattle.oat_frames.specs.Lines.{IsBlockAt, IsLineAt, lines_code, words_before_line}
pub use Rattle.oat_globals.specs.{AddImm, AreGiven, BeginsAt, Block, Blr, BodiesAreCalledFor, Body, Brk, Case, Cbnz, DeviceEnd, EdgeName, Function, GoesBack, HasBody, Image, InitWord, IsBlobOf}
pub use Rattle.oat_globals.specs.{IsCalledFor, IsFault, IsName, IsOperation, IsRow, IsShaped, IsSound, IsWellFormedCase, IsWellFormedImage, Ldr, Map, Opening, OperationsOpenOnce, OutOfSteps}
pub use Rattle.oat_globals.specs.{PlaceName, Row, Run, Session, ShapeFault, Site, Svc, Write, WritesCanBeMade, address_of, after, branch, call, call_site, calls_fit, code_base, dev, end_of}
pub use Rattle.oat_globals.specs.{executed_path, global_address, icall, is_call, is_called_at, is_over, jump, name_of, opening_of, place_name, return, sealed_bodies, serial_of, site, start_memory}
pub use Rattle.oat_globals.specs.{turn_of, uses_of, window_of}
unfoldable pub use Rattle.oat_globals.specs.{with_word, word_in}
pub use Rattle.oat_globals.specs.Code.{define_at_code, define_code, load_code, loadx_code, store_code, storex_code, use_at_code, use_code}
pub use Rattle.oat_globals.specs.Operations.{begin_code, role_words, start_code}
pub use Rattle.oat_locals.specs.{unsigned, wrap}
pub use Rattle.oat_locals.specs.Code.{binary_code, branch_code, jump_code, operand_in, operand_load, operand_store, operation_code}
pub use Rattle.oat_symbols.specs.Codes.{CodesAreOfTheProgram, CodesStand, FunctionStands, IsBuiltWhole, IsCodeOf, codes_from, codes_of}
pub use Rattle.oat_symbols.specs.Names.{CallSitesAreFound, HasSourceNames, PlacesAreNamedBySource, SitesAreNamedBySource, is_site_item}
pub use Rattle.oat_symbols.specs.Programs.{HasValidNames, ProgramsHaveSymbols, ProgramsHaveTheirLabels, all_symbols, block_names, label_of_block, main_at, symbol_for, symbols_from, symbols_of}
pub use Rattle.oat_symbols.specs.Programs.{with_first, word_at_start, words_from}
pub mod Code
pub mod Compiled
pub mod Placed
pub mod Matching
pub mod DeepCalls
pub mod Following
