-- Which lists of tokens begin a text of the grammar, which bytes are read as a tree, and where a text is first unexpected.
use Rattle.std.specs.Prelude.{◌≡◌, ℕ, Bool, true, false, ◌&&◌, nat_le, List, [], ◌∷◌, ◌++◌, map, Option, Some, None}
use Rattle.oat_grammar.specs.declared.token.Token.{Token}
use Rattle.oat_tree.specs.Syntax.{Item}
use Rattle.oat_grammar.specs.Grammar.{IsText}
use Rattle.oat_grammar.specs.Words.{are_words}
use Rattle.oat_grammar.specs.Machine.{Place, between, next}
use Rattle.oat_grammar.specs.Nodes.{AllShort}
use Rattle.oat_grammar.specs.Spots.{Spot, spots}
use Rattle.oat_grammar.specs.FirstFaults.{range_of, is_within, opens, depth_behind}

-- a text of the grammar goes on with what is behind these tokens, and all of that can be spelled
pub record GoesOn (ts : List Token) : Type 0 where
  pub rest : List Token
  pub tree : List Item
  pub whole : IsText (ts ++ rest) tree
  pub words : are_words rest ≡ true

-- ---- a text that is read

abbrev pub token_of : Spot → Option Token
token_of s = s.token

abbrev pub At : Option Place → (Place → Type 0) → Type 0
At None P = Unit {0}
At (Some p) P = P p

-- each number is in the range of its place
abbrev pub NumbersFit : List Token → Place → Type 0
NumbersFit [] p = Unit {0}
NumbersFit (t ∷ ts) p = (is_within (range_of p) t ≡ true) × At (next p t) (NumbersFit ts)

-- where a bracket or brace opens, fewer than 64 are open
abbrev pub IsShallow : List Token → ℕ → Type 0
IsShallow [] depth = Unit {0}
IsShallow (t ∷ ts) depth = ((opens t && nat_le 64 depth) ≡ false) × IsShallow ts (depth_behind depth t)

-- all words are tokens, and these a text of the grammar, within its limits
pub record IsRead (text : List ℕ) (items : List Item) : Type 0 where
  pub tokens : List Token
  pub spelled : map token_of (spots text) ≡ map Some tokens
  pub whole : IsText tokens items
  pub short : AllShort items
  pub fit : NumbersFit tokens (between [])
  pub shallow : IsShallow tokens 0

-- ---- the first unexpected word

-- With the tokens before it some text goes on, with it none; or the text ends where none does.
pub data IsUnexpected : List (Option Token) → Type 0 where
  at_token : (ts : List Token) (t : Token) (rest : List (Option Token)) → GoesOn ts → (GoesOn (ts ++ t ∷ []) → ⊥) → IsUnexpected (map Some ts ++ Some t ∷ rest)
  at_end : (ts : List Token) → GoesOn ts → ((items : List Item) → IsText ts items → ⊥) → IsUnexpected (map Some ts)
