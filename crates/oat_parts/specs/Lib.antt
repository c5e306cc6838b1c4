pub use Rattle.oat_a64.specs.Laws.{FetchesByTheTable}
pub use Rattle.oat_a64.specs.Step.{code_base}
pub use Rattle.oat_a64.specs.declared.inst.Inst.TheVariants.{SubImm, Svc}
pub use Rattle.oat_map.specs.EdgeName.{PlaceName, Site, block_name, call_site, function_below, is_numbered, is_numbered_before, is_same_place, later_of, place_name, place_of, places, site}
pub use Rattle.oat_map.specs.Name.{IsName}
pub use Rattle.oat_map.specs.Rows.{address_of, after, entries_of, is_call, is_returned_to, row_over, starts_of, word_count}
pub use Rattle.oat_map.specs.declared.map.Block.{Block}
pub use Rattle.oat_map.specs.declared.map.Function.{Function}
pub use Rattle.oat_map.specs.declared.map.Map.{Map}
pub use Rattle.oat_map.specs.declared.row.Row.{Row}
pub use Rattle.oat_asm.specs.{AreElements, Image, InitWord, IsIndex, IsInitWord, IsLaid, IsLength, IsShaped, IsWellFormedImage}
pub use Rattle.oat_asm.specs.Expansion.{expanded, expansion}
pub use Rattle.oat_asm.specs.Items.{StandsOnce, address, code_limit, is_label, item_words, label_place, place, words_needed}
pub use Rattle.oat_asm.specs.Layout.{items_give, notes_of_item}
pub use Rattle.oat_asm.specs.NoteRows.{row_of}
pub use Rattle.oat_asm.specs.Standing.{ItemsStand}
pub use Rattle.oat_asm.specs.declared.assembled.NoteAt.{NoteAt}
pub use Rattle.oat_asm.specs.declared.item.Item.{Item}
pub use Rattle.oat_asm.specs.declared.mark.Mark.{Mark}
pub use Rattle.oat_asm.specs.declared.mark.Mark.TheVariants.{Begin, Branch, Call, End, ICall, Jump, Ret}
pub use Rattle.oat_asm.specs.declared.note.Note.TheVariants.{Check}
pub mod Symbols
pub mod Parts
pub mod Built
pub mod Making
