-- The code of a program's functions in the order of its symbol table, the image that is built of it, and where each function and block stands (docs/FORMATS.md).
use Rattle.std.specs.{Prelude.◌≡◌, Prelude.◌+◌, Prelude.◌*◌, Prelude.◌^◌, Prelude.◌≤◌, Prelude.◌<◌, Prelude.ℕ, Prelude.List, Prelude.[], Prelude.◌∷◌, Prelude.length, Prelude.slice_get, Prelude.Some}
use Rattle.std.specs.{List.AllByRecursion, Option.option_to_list}
use Rattle.oat_parts.specs.{code_base, Image, Item, words_needed, code_limit, expansion, ItemsStand, Symbols.FunctionSymbol, Symbols.SymbolTable, Built.built_address, Built.built_image}
use Rattle.oat_parts.specs.{Built.CanBeExpanded, Built.IsBuiltWell, Making.FunctionCode, Making.blocks_code, Making.code_from, Making.words_become, Making.IsStretch, Making.AreCodes}
use Rattle.oat_check.specs.{Program, Func, Rules.IsChecked, Steps.operation_number}
use Rattle.oat_symbols.specs.Programs.{with_first, main_at, symbols_of, HasValidNames}

-- the code of each function, that of main first
abbrev pub codes_from : (ℕ → Func → FunctionCode) → ℕ → List Func → List FunctionCode
codes_from code f [] = []
codes_from code f (func ∷ funcs) = code f func ∷ codes_from code (f + 1) funcs

abbrev pub codes_of : (ℕ → Func → FunctionCode) → Program → List FunctionCode
codes_of code program = with_first (main_at program) (codes_from code 0 program.funcs)

-- an operation begins in its prologue, and each block is a stretch of code
pub record IsCodeOf (t : SymbolTable) (func : Func) (c : FunctionCode) : Type 0 where
  pub prologue : IsStretch t (option_to_list (operation_number func.role)) c.prologue
  pub blocks : AllByRecursion (IsStretch t []) c.blocks
  pub count : length c.blocks ≡ length func.blocks

-- where each function has its code, the functions of the table have theirs
abbrev pub CodesAreOfTheProgram : Type 0
CodesAreOfTheProgram =
    (program : Program) (code : ℕ → Func → FunctionCode)
    → ((f : ℕ) (func : Func) → slice_get program.funcs f ≡ Some func → IsCodeOf (symbols_of program) func (code f func))
    → AreCodes (symbols_of program) (symbols_of program).functions (codes_of code program)

-- ---- the image of a program

abbrev pub items_for : Program → List FunctionCode → List Item
items_for program codes = code_from (symbols_of program).functions codes

-- it has the shape, its items stand in it, and main where the machine starts
pub record IsBuiltWhole (program : Program) (items : List Item) : Type 0 where
  pub well : IsBuiltWell (symbols_of program) (built_image (symbols_of program) items)
  pub stands : ItemsStand (built_image (symbols_of program) items) (built_address items) code_base (expansion items)
  pub main : built_address items (main_at program) ≡ code_base
  pub low : (label : ℕ) → (code_base ≤ built_address items label) × (built_address items label < 2 ^ 32)

abbrev pub ProgramsAreBuilt : Type 0
ProgramsAreBuilt =
    (program : Program) (codes : List FunctionCode) → IsChecked program → HasValidNames program → AreCodes (symbols_of program) (symbols_of program).functions codes
    → CanBeExpanded (items_for program codes)
    × (words_needed (expansion (items_for program codes)) ≤ code_limit → IsBuiltWhole program (items_for program codes))

-- ---- where the code of functions and blocks stands

pub record FunctionStands (i : Image) (label : ℕ → ℕ) (e : FunctionSymbol) (c : FunctionCode) : Type 0 where
  pub prologue_stands : ItemsStand i label (label e.label) (expansion c.prologue)
  pub first : 1 ≤ length c.blocks → label e.first ≡ label e.label + 4 * words_become c.prologue
  pub blocks_follow : (b : ℕ) (body : List Item) → slice_get c.blocks b ≡ Some body → b + 1 < length c.blocks
      → label (e.first + (b + 1)) ≡ label (e.first + b) + 4 * words_become body
  pub blocks_stand : (b : ℕ) (body : List Item) → slice_get c.blocks b ≡ Some body → ItemsStand i label (label (e.first + b)) (expansion body)

abbrev pub CodesStand : Type 0
CodesStand =
    (i : Image) (label : ℕ → ℕ) (p k : ℕ) (es : List FunctionSymbol) (cs : List FunctionCode) (e : FunctionSymbol) (c : FunctionCode)
    → ItemsStand i label p (expansion (code_from es cs)) → slice_get es k ≡ Some e → slice_get cs k ≡ Some c → FunctionStands i label e c

abbrev pub function_words : FunctionSymbol → FunctionCode → ℕ
function_words e c = words_become c.prologue + words_become (blocks_code e.first c.blocks)

-- the next function stands behind the words of this one
abbrev pub CodesFollow : Type 0
CodesFollow =
    (i : Image) (label : ℕ → ℕ) (p k : ℕ) (es : List FunctionSymbol) (cs : List FunctionCode) (e next : FunctionSymbol) (c : FunctionCode)
    → ItemsStand i label p (expansion (code_from es cs)) → slice_get es k ≡ Some e → slice_get es (k + 1) ≡ Some next → slice_get cs k ≡ Some c → k + 1 < length cs
    → label next.label ≡ label e.label + 4 * function_words e c
