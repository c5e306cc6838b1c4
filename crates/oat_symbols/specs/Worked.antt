-- A worked program: an operation that does nothing, `main` that calls it, and their code in parts. So there is what the laws speak of.
use Rattle.std.specs.Prelude.{◌≡◌, ◌≤◌, List, [], ◌∷◌}
use Rattle.oat_parts.specs.{SubImm, Svc, Call, Ret, Begin, End, Item, words_needed, code_limit, expansion, Built.built_map, Making.FunctionCode, Making.AreCodes}
use Rattle.oat_check.specs.{idle_program, Rules.IsChecked}
use Rattle.oat_symbols.specs.{Programs.symbols_of, Programs.HasValidNames, Codes.items_for, Codes.IsBuiltWhole}
use Rattle.oat_map.specs.declared.row.Row.TheVariants as row
use Rattle.oat_asm.specs.declared.item.Item.TheVariants as item

-- the code of main, which stands first, and that of the operation
abbrev pub idle_codes : List FunctionCode
idle_codes =
    record { prologue = item.Inst (SubImm 31 31 16) ∷ []; blocks = (item.Mark (Call 0) ∷ item.Inst (Svc 0) ∷ []) ∷ [] }
    ∷ record { prologue = item.Mark (Begin 1) ∷ []; blocks = (item.Mark (End 1) ∷ item.Mark Ret ∷ []) ∷ [] } ∷ []

abbrev pub idle_items : List Item
idle_items = items_for idle_program idle_codes

-- all premises hold of it, and so it is built
pub record IdleIsBuilt : Type 0 where
  pub checked : IsChecked idle_program
  pub named : HasValidNames idle_program
  pub codes : AreCodes (symbols_of idle_program) (symbols_of idle_program).functions idle_codes
  pub few : words_needed (expansion idle_items) ≤ code_limit
  pub rows : (built_map (symbols_of idle_program) idle_items).rows ≡ row.Call 0x10004 0x1000C ∷ row.Begin 0x1000C 1 ∷ row.End 0x10014 1 ∷ row.Ret 0x1001C ∷ []
  pub built : IsBuiltWhole idle_program idle_items
