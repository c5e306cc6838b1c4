-- The symbol table of a program (docs/FORMATS.md, "Program text"): `main` is its first function, and all others stand in their order.
use Rattle.std.specs.{Prelude.◌≡◌, Prelude.◌+◌, Prelude.ℕ, Prelude.nat_eq, Prelude.if◌then◌else◌, Prelude.List, Prelude.[], Prelude.◌∷◌, Prelude.◌++◌, Prelude.length, Prelude.map, Prelude.take}
use Rattle.std.specs.{Prelude.drop, Prelude.slice_get, Prelude.Some, Prelude.◌<◌, Prelude.Contains, List.position_or_len, List.flat_map}
use Rattle.oat_parts.specs.{IsName, InitWord, IsLength, AreElements, Symbols.FunctionSymbol, Symbols.SymbolTable, Symbols.IsSymbolTable, Symbols.IsFunctionLabel, Symbols.IsBlockLabel}
use Rattle.oat_parts.specs.{Symbols.operations_in}
use Rattle.oat_check.specs.{Program, GlobalItem, CriticalArray, Func, BlockIr, Globals.size_in_words, Globals.start_of, Globals.cell_words, Globals.cell_number, Globals.word_number}
use Rattle.oat_check.specs.{Keeping.is_referenced, Rules.is_main, Rules.IsChecked, Steps.operation_number}

-- ---- functions and labels

abbrev pub block_names : Func → List (List ℕ)
block_names func = map (λ block. block.label) func.blocks

-- of n functions function f has label f, and block b of it has n, the number of all blocks of the functions before, and b
abbrev pub symbol_for : Program → ℕ → ℕ → Func → FunctionSymbol
symbol_for program f first func = record {
  label = f;
  first = first;
  name = func.name;
  params = func.params;
  referenced = is_referenced program f;
  operation = operation_number func.role;
  blocks = block_names func;
}

abbrev pub symbols_from : Program → ℕ → ℕ → List Func → List FunctionSymbol
symbols_from program f first [] = []
symbols_from program f first (func ∷ funcs) = symbol_for program f first func ∷ symbols_from program (f + 1) (first + length (block_names func)) funcs

abbrev pub all_symbols : Program → List FunctionSymbol
all_symbols program = symbols_from program 0 (length program.funcs) program.funcs

abbrev pub label_of_block : Program → ℕ → ℕ → ℕ
label_of_block program f b = length program.funcs + length (flat_map block_names (take f program.funcs)) + b

-- the m-th first
abbrev pub with_first : {X : Type 0} → ℕ → List X → List X
with_first m xs = take 1 (drop m xs) ++ (take m xs ++ drop (m + 1) xs)

abbrev pub main_at : Program → ℕ
main_at program = position_or_len is_main program.funcs

-- ---- words that aren't 0 at the start: only scalars have any

abbrev pub word_at_start : ℕ → ℕ → List InitWord
word_at_start index value = if nat_eq value 0 then [] else record { index = index; value = value } ∷ []

abbrev pub words_from : ℕ → List GlobalItem → List InitWord
words_from n [] = []
words_from n (item ∷ items) = word_at_start n (start_of item) ++ words_from (n + size_in_words item) items

-- ---- the table

abbrev pub symbols_of : Program → SymbolTable
symbols_of program = record {
  functions = with_first (main_at program) (all_symbols program);
  words = words_from 0 program.globals;
  cells = cell_words program.globals;
}

-- names are names, as the type of a program has it
pub record HasValidNames (program : Program) : Type 0 where
  pub functions : (func : Func) → Contains program.funcs func → IsName func.name
  pub blocks : (func : Func) (block : BlockIr) → Contains program.funcs func → Contains func.blocks block → IsName block.label

abbrev pub ProgramsHaveSymbols : Type 0
ProgramsHaveSymbols = (program : Program) → IsChecked program → HasValidNames program → IsSymbolTable (symbols_of program)

-- each function and block has its label in the table, and each operation its number
pub record HasItsLabels (program : Program) : Type 0 where
  pub functions : (f : ℕ) → f < length program.funcs → IsFunctionLabel (symbols_of program) f
  pub blocks : (f b : ℕ) (func : Func) → slice_get program.funcs f ≡ Some func → b < length func.blocks
      → IsBlockLabel (symbols_of program) (label_of_block program f b)
  pub operations : (f op : ℕ) (func : Func) → slice_get program.funcs f ≡ Some func → operation_number func.role ≡ Some op
      → Contains (operations_in (symbols_of program).functions) op

abbrev pub ProgramsHaveTheirLabels : Type 0
ProgramsHaveTheirLabels = (program : Program) → IsChecked program → HasItsLabels program

-- each cell of the program is one of the table with the word of its element, and the cells of a critical array are those that its marks name
pub record HasItsCells (program : Program) : Type 0 where
  pub elements : (g i cell word : ℕ) → cell_number program g i ≡ Some cell → word_number program g i ≡ Some word → slice_get (symbols_of program).cells cell ≡ Some word
  pub arrays : (g cell word len : ℕ) (name : List ℕ) → slice_get program.globals g ≡ Some (CriticalArray name len) → cell_number program g 0 ≡ Some cell → word_number program g 0 ≡ Some word
      → AreElements (symbols_of program).cells cell len word × IsLength len

abbrev pub ProgramsHaveTheirCells : Type 0
ProgramsHaveTheirCells = (program : Program) → IsChecked program → HasItsCells program
