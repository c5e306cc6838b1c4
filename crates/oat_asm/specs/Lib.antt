unfoldable pub use Rattle.oat_a64.specs.Fetch.{inst_of, is_word}
pub use Rattle.oat_a64.specs.Kinds.{is_measured, is_transfer}
pub use Rattle.oat_a64.specs.Laws.{FetchesByTheTable}
pub use Rattle.oat_a64.specs.Step.{Machine, Regs, act, branch_target, code_base, difference, fault, goes_on, holds, instruction_at, jumps, jumps_if, links, loads, reg, reg_or_sp, set, shifted_left}
pub use Rattle.oat_a64.specs.Step.{signed, stores, subtracts, unsigned, with_bits, with_flags, with_reg, word_at, wrap}
pub use Rattle.oat_a64.specs.Table.{FitsSigned, IsInRange, is_condition, twos_complement, word_of}
pub use Rattle.oat_a64.specs.declared.event.FaultKind.TheVariants.{Access}
pub use Rattle.oat_a64.specs.declared.inst.Inst.{Inst}
pub use Rattle.oat_a64.specs.declared.inst.Inst.TheVariants.{AddImm, AddReg, AndReg, Asrv, B, BCond, Bl, Blr, Brk, Cbnz, Cbz, Csinc, EorReg, Ldr, LdrReg, Lslv, Lsrv, Madd, Movk, Movz, Msub, Nop}
pub use Rattle.oat_a64.specs.declared.inst.Inst.TheVariants.{OrrReg, Ret, Sdiv, Str, StrReg, SubImm, SubReg, SubsImm, SubsReg, Svc, Udiv}
pub use Rattle.oat_shape.specs.{BeginsAt, Block, Depth, DivZero, Edge, EdgeName, Function, GoesBack, Image, Index, InitWord, InputEnd, IsBlock, IsFunction, IsIndex, IsInitWord, IsLength, IsName}
pub use Rattle.oat_shape.specs.{IsOperation, IsOperationNumber, IsRow, IsSection, IsWellFormedImage, IsWord, Map, NullCall, PlaceName, Row, Site, Turn, Turned, address_of, after, branch, call}
pub use Rattle.oat_shape.specs.{call_site, entries_of, global_address, global_base, global_size, icall, is_call, is_called_at, is_over, is_returned_to, jump, lies_in, name_of, place_name, pops}
pub use Rattle.oat_shape.specs.{pushes, return, row_over, signed_remainder, site, stack_base, stack_size, starts_of, stays, strays, turn_of, unsigned_remainder, word_count}
unfoldable pub use Rattle.oat_shape.specs.{can_access, fits, with_word, word_in}
pub use Rattle.oat_shape.specs.Groups.{AreElements, IsGroup, Stands}
pub use Rattle.oat_shape.specs.Laid.{IsLaid, OperationsOpenOnce}
pub use Rattle.oat_shape.specs.MapRules.{HasOwnName, IsPaired, IsPlaced, LeadsToPlaces, S2, S4, S7, S8}
pub use Rattle.oat_shape.specs.Refusal.{IsFault}
pub use Rattle.oat_shape.specs.Shape.{Covers, Everywhere, IsPlaceOrSite, IsShaped, S1, S3, S5, S6, group_end}
pub use Rattle.oat_shape.specs.declared.fault.ShapeFault.{ShapeFault}
pub use Rattle.oat_shape.specs.edges as edges
pub use Rattle.oat_a64.specs.declared.inst.Inst.TheVariants as inst
pub mod Giving
pub mod Items
pub mod Layout
pub mod Expansion
pub mod ExpansionLaws
pub mod NoteRows
pub mod Laws
pub mod Standing
pub mod StandingLaws
pub mod Steps
pub mod Ranges
