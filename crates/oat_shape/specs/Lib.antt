pub use Rattle.oat_first.specs.First.{IsDecisive, IsOne, Tests, fails, passes}
pub use Rattle.oat_mem.specs.DataMemory.{global_address, global_base, global_size, lies_in, stack_base, stack_size}
unfoldable pub use Rattle.oat_mem.specs.DataMemory.{can_access, fits, with_word, word_in}
pub use Rattle.oat_a64.specs.{signed_remainder, unsigned_remainder}
unfoldable pub use Rattle.oat_a64.specs.{bits_in, packed}
unfoldable pub use Rattle.oat_a64.specs.Fetch.{inst_of}
pub use Rattle.oat_a64.specs.Laws.{FetchesByTheTable}
pub use Rattle.oat_a64.specs.Step.{branch_target, code_base, instruction_at, loads, stores, word_at}
pub use Rattle.oat_a64.specs.Table.{FitsSigned, IsInRange, is_condition, word_of}
pub use Rattle.oat_a64.specs.declared.inst.Inst.{Inst}
pub use Rattle.oat_a64.specs.declared.inst.Inst.TheVariants.{AddReg, BCond, Brk, LdrReg, Movk, Movz, StrReg, SubsReg, Svc}
pub use Rattle.oat_map.specs.EdgeName.{EdgeName, PlaceName, Site, block_name, branch, call, call_site, finish, function_below, icall, is_numbered, is_numbered_before, is_same_place, jump, later_of}
pub use Rattle.oat_map.specs.EdgeName.{name_of, place_name, place_of, places, return, site, stray}
pub use Rattle.oat_map.specs.Name.{IsName, is_name_byte}
pub use Rattle.oat_map.specs.Rows.{BeginsAt, IsIndirectTarget, IsOperation, IsOrdered, address_of, after, begins, entries_of, is_call, is_called_at, is_over, is_returned_to, row_over, start}
pub use Rattle.oat_map.specs.Rows.{starts_of, word_count}
pub use Rattle.oat_map.specs.Turns.{GoesBack, Turn, Turned, pops, pushes, stays, strays, turn_of}
pub use Rattle.oat_map.specs.Walk.{Leads, Returns, RowGoes, Step, Walk, edge_of, moved, passed, path_of, return_of, return_site_of, returns_of}
pub use Rattle.oat_map.specs.Worked.{calls_map, calls_path}
pub use Rattle.oat_map.specs.declared.edge.Edge.{Edge}
pub use Rattle.oat_map.specs.declared.edge.Edge.TheVariants.{End}
pub use Rattle.oat_map.specs.declared.map.Block.{Block}
pub use Rattle.oat_map.specs.declared.map.Function.{Function}
pub use Rattle.oat_map.specs.declared.map.Map.{Map}
pub use Rattle.oat_map.specs.declared.row.Row.{Row}
pub use Rattle.oat_map.specs.declared.row.Row.TheVariants.{Begin, Branch, Call, Check, DefAt, DefCell, ICall, Jump, Ret, UseAt, UseCell}
pub use Rattle.oat_map.specs.declared.trap.TrapKind.TheVariants.{Depth, DivZero, Index, InputEnd, NullCall}
pub use Rattle.oat_image.specs.{At, Fails, Fault, Gives, TextWord, capped, guard, hexadecimal_digit, is_comment, is_decimal_digit, is_hexadecimal_digit, is_visible, numeral_of, sole, triple, ◌>>=◌}
unfoldable pub use Rattle.oat_image.specs.{hexadecimal, lines_of, words_of}
pub use Rattle.oat_image.specs.Grammar.{IsBlock, IsFunction, IsIndex, IsInitWord, IsLength, IsOperationNumber, IsRow, IsSection, IsWellFormedImage, IsWord, image_text}
pub use Rattle.oat_image.specs.declared.image.Image.{Image}
pub use Rattle.oat_image.specs.declared.image.InitWord.{InitWord}
pub use Rattle.oat_map.specs.declared.edge.Edge.TheVariants as edges
pub use Rattle.oat_map.specs.declared.row.Row.TheVariants as row
pub use Rattle.oat_map.specs.Rows as rows
pub mod Groups
pub mod MapRules
pub mod Shape
pub mod Lowest
pub mod Parts
pub mod Refusal
pub mod Laid
