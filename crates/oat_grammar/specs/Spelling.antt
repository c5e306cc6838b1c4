-- How a list of tokens is spelled: each as it is, with a space behind it.
use Rattle.std.specs.Prelude.{ℕ, List, [], ◌∷◌, ◌++◌, codes, decimal}
use Rattle.oat_grammar.specs.declared.token.Mark.{Mark}
use Rattle.oat_grammar.specs.declared.token.Mark.TheVariants.{Global, Critical, Array, Fn, Operation, Main, Var, If, Else, While, Out, Return, Halt, In, Assign, Semicolon, Comma, OpenRound, CloseRound, OpenSquare, CloseSquare, OpenBrace, CloseBrace}
use Rattle.oat_tree.specs.declared.operator.Operator.{Operator}
use Rattle.oat_tree.specs.declared.operator.Operator.TheVariants.{Equal, Unequal, Less, AtMost, Greater, AtLeast, BitOr, BitXor, BitAnd, ShiftLeft, ShiftRight, Plus, Minus, Times, Quotient, Remainder}
use Rattle.oat_grammar.specs.declared.token.Token.{Token}
use Rattle.oat_grammar.specs.declared.token.Token.TheVariants.{Named, Number, Fixed, Sign}
use Rattle.oat_tree.specs.Syntax.{Word}

abbrev pub mark_text : Mark → Word
mark_text Global = codes "global"
mark_text Critical = codes "critical"
mark_text Array = codes "array"
mark_text Fn = codes "fn"
mark_text Operation = codes "operation"
mark_text Main = codes "main"
mark_text Var = codes "var"
mark_text If = codes "if"
mark_text Else = codes "else"
mark_text While = codes "while"
mark_text Out = codes "out"
mark_text Return = codes "return"
mark_text Halt = codes "halt"
mark_text In = codes "in"
mark_text Assign = codes "="
mark_text Semicolon = codes ";"
mark_text Comma = codes ","
mark_text OpenRound = codes "("
mark_text CloseRound = codes ")"
mark_text OpenSquare = codes "["
mark_text CloseSquare = codes "]"
mark_text OpenBrace = codes "{"
mark_text CloseBrace = codes "}"

abbrev pub operator_text : Operator → Word
operator_text Equal = codes "=="
operator_text Unequal = codes "!="
operator_text Less = codes "<"
operator_text AtMost = codes "<="
operator_text Greater = codes ">"
operator_text AtLeast = codes ">="
operator_text BitOr = codes "|"
operator_text BitXor = codes "^"
operator_text BitAnd = codes "&"
operator_text ShiftLeft = codes "<<"
operator_text ShiftRight = codes ">>"
operator_text Plus = codes "+"
operator_text Minus = codes "-"
operator_text Times = codes "*"
operator_text Quotient = codes "/"
operator_text Remainder = codes "%"

abbrev pub token_text : Token → Word
token_text (Named w) = w
token_text (Number n) = decimal n
token_text (Fixed m) = mark_text m
token_text (Sign o) = operator_text o

abbrev pub tokens_text : List Token → List ℕ
tokens_text [] = []
tokens_text (t ∷ ts) = token_text t ++ 32 ∷ tokens_text ts
