-- The symbol table of a program: its functions and blocks with their labels and names, its operations, the words of its data and its cells. It is what the program's image has besides code and rows (docs/FORMATS.md).
use Rattle.std.specs.{Prelude.◌+◌, Prelude.◌<◌, Prelude.◌≤◌, Prelude.ℕ, Prelude.zero, Prelude.suc, Prelude.Bool, Prelude.List, Prelude.[], Prelude.◌∷◌, Prelude.length, Prelude.map, Prelude.Option}
use Rattle.std.specs.{Prelude.Contains, Prelude.⊤, List.flat_map, List.AllByRecursion, Option.option_to_list, List.Sorted.IsStrictlyIncreasing}
use Rattle.oat_asm.specs.{IsName, Function, Block, InitWord, IsInitWord, IsIndex, IsSection}

-- a function with its label, its operation, if it is one, and its blocks by their names, with the label of the first
pub record FunctionSymbol : Type 0 where
  pub label : ℕ
  pub first : ℕ
  pub name : List ℕ
  pub params : ℕ
  pub referenced : Bool
  pub operation : Option ℕ
  pub blocks : List (List ℕ)

-- the functions stand in the order of their code
pub record SymbolTable : Type 0 where
  pub functions : List FunctionSymbol
  pub words : List InitWord
  pub cells : List ℕ

abbrev pub blocks_in : List FunctionSymbol → List (List ℕ)
blocks_in functions = flat_map (λ e. e.blocks) functions

abbrev pub operations_in : List FunctionSymbol → List ℕ
operations_in functions = flat_map (λ e. option_to_list e.operation) functions

-- ---- labels

-- so many numbers from one on
abbrev pub up_from : ℕ → ℕ → List ℕ
up_from n zero = []
up_from n (suc k) = n ∷ up_from (n + 1) k

-- the labels of the function's blocks
abbrev pub own_labels : FunctionSymbol → List ℕ
own_labels e = up_from e.first (length e.blocks)

abbrev pub function_labels : List FunctionSymbol → List ℕ
function_labels functions = map (λ e. e.label) functions

abbrev pub block_labels : List FunctionSymbol → List ℕ
block_labels functions = flat_map own_labels functions

-- all labels, in the order in which they stand in code
abbrev pub labels_from : List FunctionSymbol → List ℕ
labels_from functions = flat_map (λ e. e.label ∷ own_labels e) functions

abbrev pub labels_of : SymbolTable → List ℕ
labels_of t = labels_from t.functions

abbrev pub IsFunctionLabel : SymbolTable → ℕ → Type 0
IsFunctionLabel t label = Contains (function_labels t.functions) label

abbrev pub IsBlockLabel : SymbolTable → ℕ → Type 0
IsBlockLabel t label = Contains (block_labels t.functions) label

-- ---- the functions and blocks of the map, by the address of each label

abbrev pub function_at : (ℕ → ℕ) → FunctionSymbol → Function
function_at address e = record { entry = address e.label; name = e.name; params = e.params; referenced = e.referenced }

abbrev pub functions_of : (ℕ → ℕ) → List FunctionSymbol → List Function
functions_of address functions = map (function_at address) functions

abbrev pub blocks_from : (ℕ → ℕ) → ℕ → List (List ℕ) → List Block
blocks_from address n [] = []
blocks_from address n (name ∷ names) = record { start = address n; label = name } ∷ blocks_from address (n + 1) names

abbrev pub blocks_of : (ℕ → ℕ) → List FunctionSymbol → List Block
blocks_of address functions = flat_map (λ e. blocks_from address e.first e.blocks) functions

-- ---- what the table of a program keeps

-- each is another than those behind it
abbrev pub AreDistinct : {X : Type 0} → List X → Type 0
AreDistinct [] = ⊤
AreDistinct (x ∷ xs) = (Contains xs x → ⊥) × AreDistinct xs

-- each measures less than those behind it
abbrev pub Rises : {X : Type 0} → (X → ℕ) → List X → Type 0
Rises measure [] = ⊤
Rises {X} measure (x ∷ xs) = ((y : X) → Contains xs y → measure x < measure y) × Rises measure xs

pub record IsFunctionSymbol (e : FunctionSymbol) : Type 0 where
  pub name : IsName e.name
  pub params : e.params ≤ 4
  pub labels : AllByRecursion IsName e.blocks
  pub distinct : AreDistinct e.blocks

pub record IsSymbolTable (t : SymbolTable) : Type 0 where
  pub some : 1 ≤ length t.functions
  pub each : AllByRecursion IsFunctionSymbol t.functions
  pub labels : AreDistinct (labels_of t)
  pub names : AreDistinct (map (λ e. e.name) t.functions)
  pub operations : AreDistinct (operations_in t.functions)
  pub words : IsSection IsInitWord 0 65536 t.words
  pub words_rise : IsStrictlyIncreasing (map (λ w. w.index) t.words)
  pub cells : IsSection IsIndex 0 65536 t.cells
  pub cells_rise : IsStrictlyIncreasing t.cells
