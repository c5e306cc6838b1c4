-- The tokens of a text at which a fault of its tree may stand, and their lines.
use Rattle.std.specs.Prelude.{ℕ, Bool, true, false, List, [], ◌∷◌, Option, Some, None, if◌then◌else◌}
use Rattle.oat_grammar.specs.declared.token.Mark.TheVariants as mark
use Rattle.oat_grammar.specs.declared.token.Token.{Token}
use Rattle.oat_grammar.specs.declared.token.Token.TheVariants.{Named, Number, Fixed}
use Rattle.oat_grammar.specs.Spots.{Spot, spots}

abbrev pub is_operation : Token → Bool
is_operation (Fixed mark.Operation) = true
is_operation _ = false

-- A name, `return`, `main`, `fn`, `operation`, and the number behind `operation`.
abbrev pub is_mention : Bool → Token → Bool
is_mention behind_operation (Named x) = true
is_mention behind_operation (Number n) = behind_operation
is_mention behind_operation (Fixed mark.Return) = true
is_mention behind_operation (Fixed mark.Main) = true
is_mention behind_operation (Fixed mark.Fn) = true
is_mention behind_operation (Fixed mark.Operation) = true
is_mention behind_operation _ = false

-- those of a list of tokens, in their order
abbrev pub mentions_from : Bool → List Token → List Token
mentions_from behind_operation [] = []
mentions_from behind_operation (t ∷ ts) = if is_mention behind_operation t then t ∷ mentions_from (is_operation t) ts else mentions_from (is_operation t) ts

abbrev pub mentions : List Token → List Token
mentions ts = mentions_from false ts

-- their lines, word by word
abbrev pub lines_behind : ℕ → Bool → Option Token → List ℕ → List ℕ
lines_behind line behind_operation None others = others
lines_behind line behind_operation (Some t) others = if is_mention behind_operation t then line ∷ others else others

abbrev pub operation_at : Option Token → Bool
operation_at None = false
operation_at (Some t) = is_operation t

abbrev pub lines_from : Bool → List Spot → List ℕ
lines_from behind_operation [] = []
lines_from behind_operation (s ∷ ss) = lines_behind s.line behind_operation s.token (lines_from (operation_at s.token) ss)

abbrev pub mention_lines : List ℕ → List ℕ
mention_lines text = lines_from false (spots text)
