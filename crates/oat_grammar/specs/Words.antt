-- How tokens are spelled.
use Rattle.std.specs.Prelude.{Bool, true, not, ◌&&◌, nat_le, nat_lt, List, [], ◌∷◌, length, codes, find, is_some, Option}
use Rattle.std.specs.Str.{bytes_eq}
use Rattle.std.specs.List.{list_all}
use Rattle.oat_map.specs.Name.{is_name}
use Rattle.oat_grammar.specs.declared.token.Mark.{Mark}
use Rattle.oat_grammar.specs.declared.token.Mark.TheVariants.{Global, Critical, Array, Fn, Operation, Main, Var, If, Else, While, Out, Return, Halt, In}
use Rattle.oat_grammar.specs.declared.token.Token.{Token}
use Rattle.oat_grammar.specs.declared.token.Token.TheVariants.{Named, Number}
use Rattle.oat_tree.specs.Syntax.{Word}

-- the words of the grammar, each with its spelling
pub record Keyword : Type 0 where
  pub keyword : Mark
  pub spelling : Word

abbrev pub keyword_of : Mark → Word → Keyword
keyword_of m w = record { keyword = m; spelling = w }

abbrev pub keywords : List Keyword
keywords =
    keyword_of Global (codes "global")
    ∷ keyword_of Critical (codes "critical")
    ∷ keyword_of Array (codes "array")
    ∷ keyword_of Fn (codes "fn")
    ∷ keyword_of Operation (codes "operation")
    ∷ keyword_of Main (codes "main")
    ∷ keyword_of Var (codes "var")
    ∷ keyword_of If (codes "if")
    ∷ keyword_of Else (codes "else")
    ∷ keyword_of While (codes "while")
    ∷ keyword_of Out (codes "out")
    ∷ keyword_of Return (codes "return")
    ∷ keyword_of Halt (codes "halt")
    ∷ keyword_of In (codes "in") ∷ []

abbrev pub keyword_in : Word → Option Keyword
keyword_in w = find (λ k. bytes_eq w k.spelling) keywords

-- a name of at most 30 bytes that is no word of the grammar
abbrev pub is_free_name : Word → Bool
is_free_name w = is_name w && nat_le (length w) 30 && not (is_some (keyword_in w))

-- a token that can be spelled, at any place of its kind
abbrev pub is_word : Token → Bool
is_word (Named w) = is_free_name w
is_word (Number n) = nat_lt n 9223372036854775808
is_word _ = true

abbrev pub are_words : List Token → Bool
are_words ts = list_all is_word ts
