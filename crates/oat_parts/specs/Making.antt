-- How the items of a program are made of parts: each function is its label, a prologue, and its blocks, each behind its label.
use Rattle.std.specs.{Prelude.◌≡◌, Prelude.◌+◌, Prelude.◌≤◌, Prelude.ℕ, Prelude.List, Prelude.[], Prelude.◌∷◌, Prelude.◌++◌, Prelude.length, Prelude.⊤, List.AllByRecursion, Option.option_to_list}
use Rattle.oat_asm.specs.{declared.item.Item.Item, Items.words_needed, Expansion.expansion}
use Rattle.oat_parts.specs.{Symbols.FunctionSymbol, Symbols.SymbolTable, Parts.IsMadeOfParts, Parts.AreInParts}
use Rattle.oat_asm.specs.declared.item.Item.TheVariants as item

-- items made of parts, one behind the other
abbrev pub PartsJoin : Type 0
PartsJoin =
    (t : SymbolTable) (labels more begun also : List ℕ) (xs ys : List Item) → IsMadeOfParts t labels begun xs → IsMadeOfParts t more also ys
    → IsMadeOfParts t (labels ++ more) (begun ++ also) (xs ++ ys)

-- items without a label that have a word, behind a label
abbrev pub PartsBehindLabel : Type 0
PartsBehindLabel =
    (t : SymbolTable) (begun : List ℕ) (l : ℕ) (items : List Item) → IsMadeOfParts t [] begun items → 1 ≤ words_needed (expansion items)
    → IsMadeOfParts t (l ∷ []) begun (item.Label l ∷ items)

-- ---- functions

pub record FunctionCode : Type 0 where
  pub prologue : List Item
  pub blocks : List (List Item)

abbrev pub blocks_code : ℕ → List (List Item) → List Item
blocks_code n [] = []
blocks_code n (b ∷ bs) = (item.Label n ∷ b) ++ blocks_code (n + 1) bs

abbrev pub code_from : List FunctionSymbol → List FunctionCode → List Item
code_from [] cs = []
code_from (e ∷ es) [] = []
code_from (e ∷ es) (c ∷ cs) = (item.Label e.label ∷ c.prologue) ++ (blocks_code e.first c.blocks ++ code_from es cs)

-- items between two labels
pub record IsStretch (t : SymbolTable) (begun : List ℕ) (items : List Item) : Type 0 where
  pub made : IsMadeOfParts t [] begun items
  pub word : 1 ≤ words_needed (expansion items)

pub record IsFunctionCode (t : SymbolTable) (e : FunctionSymbol) (c : FunctionCode) : Type 0 where
  pub prologue : IsStretch t (option_to_list e.operation) c.prologue
  pub blocks : AllByRecursion (IsStretch t []) c.blocks
  pub count : length c.blocks ≡ length e.blocks

abbrev pub AreCodes : SymbolTable → List FunctionSymbol → List FunctionCode → Type 0
AreCodes t [] [] = ⊤
AreCodes t [] (c ∷ cs) = ⊥
AreCodes t (e ∷ es) [] = ⊥
AreCodes t (e ∷ es) (c ∷ cs) = IsFunctionCode t e c × AreCodes t es cs

abbrev pub CodesAreInParts : Type 0
CodesAreInParts = (t : SymbolTable) (cs : List FunctionCode) → AreCodes t t.functions cs → AreInParts t (code_from t.functions cs)

-- ---- words

abbrev pub words_become : List Item → ℕ
words_become items = words_needed (expansion items)

abbrev pub WordsAdd : Type 0
WordsAdd = (xs ys : List Item) → words_become (xs ++ ys) ≡ words_become xs + words_become ys

abbrev pub blocks_words : List (List Item) → ℕ
blocks_words [] = 0
blocks_words (b ∷ bs) = words_become b + blocks_words bs

abbrev pub codes_words : List FunctionCode → ℕ
codes_words [] = 0
codes_words (c ∷ cs) = words_become c.prologue + blocks_words c.blocks + codes_words cs

-- labels have no words
abbrev pub CodesHaveTheirWords : Type 0
CodesHaveTheirWords = (t : SymbolTable) (es : List FunctionSymbol) (cs : List FunctionCode) → AreCodes t es cs → words_become (code_from es cs) ≡ codes_words cs
