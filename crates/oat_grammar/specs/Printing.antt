-- The tokens of a tree: its text, with brackets where they are needed.
use Rattle.std.specs.Prelude.{ℕ, suc, Bool, true, false, nat_le, List, [], ◌∷◌, ◌++◌, if◌then◌else◌, ℤ, pos, negsuc}
use Rattle.oat_tree.specs.Levels.{level}
use Rattle.oat_ir.specs.declared.func.Role.{Role}
use Rattle.oat_ir.specs.declared.func.Role.TheVariants.{Plain, Operation, Main}
use Rattle.oat_ir.specs.declared.program.GlobalItem.{GlobalItem}
use Rattle.oat_ir.specs.declared.program.GlobalItem.TheVariants.{Scalar, FnScalar, Array, CriticalArray}
use Rattle.oat_grammar.specs.declared.token.Mark.TheVariants as mark
use Rattle.oat_tree.specs.declared.operator.Operator.TheVariants.{Minus}
use Rattle.oat_grammar.specs.declared.token.Token.{Token}
use Rattle.oat_grammar.specs.declared.token.Token.TheVariants.{Named, Number, Fixed, Sign}
use Rattle.oat_tree.specs.Syntax.{Word, Expr, number, name, element, call, input, negative, binary, Exprs, no_exprs, expr, Stmt, declare, assign, assign_element, choose, repeat, put, return, halt, call_only, Body, no_stmts, stmt, Function, Item, global, function}
use Rattle.oat_grammar.specs.Grammar.{names, scalar_word}

abbrev pub bracketed_if : Bool → List Token → List Token
bracketed_if fits ts = if fits then ts else Fixed mark.OpenRound ∷ ts ++ Fixed mark.CloseRound ∷ []

-- an expression where operators of this level and tighter ones may stand
abbrev mutual
  pub expr_tokens : Expr → ℕ → List Token
  expr_tokens (number n) l = Number n ∷ []
  expr_tokens (name x) l = Named x ∷ []
  expr_tokens (element x e) l = Named x ∷ Fixed mark.OpenSquare ∷ expr_tokens e 0 ++ Fixed mark.CloseSquare ∷ []
  expr_tokens (call f es) l = Named f ∷ Fixed mark.OpenRound ∷ exprs_tokens es ++ Fixed mark.CloseRound ∷ []
  expr_tokens input l = Fixed mark.In ∷ []
  expr_tokens (negative e) l = Sign Minus ∷ expr_tokens e 7
  expr_tokens (binary o a b) l = bracketed_if (nat_le l (level o)) (expr_tokens a (level o) ++ Sign o ∷ expr_tokens b (suc (level o)))

  pub exprs_tokens : Exprs → List Token
  exprs_tokens no_exprs = []
  exprs_tokens (expr e es) = expr_tokens e 0 ++ others_tokens es

  -- each behind a comma
  pub others_tokens : Exprs → List Token
  others_tokens no_exprs = []
  others_tokens (expr e es) = Fixed mark.Comma ∷ expr_tokens e 0 ++ others_tokens es

abbrev mutual
  pub stmt_tokens : Stmt → List Token
  stmt_tokens (declare x e) = Fixed mark.Var ∷ Named x ∷ Fixed mark.Assign ∷ expr_tokens e 0 ++ Fixed mark.Semicolon ∷ []
  stmt_tokens (assign x e) = Named x ∷ Fixed mark.Assign ∷ expr_tokens e 0 ++ Fixed mark.Semicolon ∷ []
  stmt_tokens (assign_element x e f) = Named x ∷ Fixed mark.OpenSquare ∷ expr_tokens e 0 ++ Fixed mark.CloseSquare ∷ Fixed mark.Assign ∷ expr_tokens f 0 ++ Fixed mark.Semicolon ∷ []
  stmt_tokens (choose e a b) = Fixed mark.If ∷ expr_tokens e 0 ++ (Fixed mark.OpenBrace ∷ stmts_tokens a ++ Fixed mark.CloseBrace ∷ []) ++ else_tokens b
  stmt_tokens (repeat e a) = Fixed mark.While ∷ expr_tokens e 0 ++ (Fixed mark.OpenBrace ∷ stmts_tokens a ++ Fixed mark.CloseBrace ∷ [])
  stmt_tokens (put e) = Fixed mark.Out ∷ expr_tokens e 0 ++ Fixed mark.Semicolon ∷ []
  stmt_tokens (return e) = Fixed mark.Return ∷ expr_tokens e 0 ++ Fixed mark.Semicolon ∷ []
  stmt_tokens halt = Fixed mark.Halt ∷ Fixed mark.Semicolon ∷ []
  stmt_tokens (call_only f es) = Named f ∷ Fixed mark.OpenRound ∷ exprs_tokens es ++ Fixed mark.CloseRound ∷ Fixed mark.Semicolon ∷ []

  pub stmts_tokens : Body → List Token
  stmts_tokens no_stmts = []
  stmts_tokens (stmt s b) = stmt_tokens s ++ stmts_tokens b

  pub else_tokens : Body → List Token
  else_tokens no_stmts = []
  else_tokens (stmt s b) = Fixed mark.Else ∷ Fixed mark.OpenBrace ∷ (stmt_tokens s ++ stmts_tokens b) ++ Fixed mark.CloseBrace ∷ []

abbrev pub braced_tokens : Body → List Token
braced_tokens b = Fixed mark.OpenBrace ∷ stmts_tokens b ++ Fixed mark.CloseBrace ∷ []

-- ---- items

abbrev pub start_tokens : ℤ → List Token
start_tokens (pos n) = Number n ∷ []
start_tokens (negsuc n) = Sign Minus ∷ Number (suc n) ∷ []

abbrev pub length_tokens : Token → Word → ℕ → List Token
length_tokens t x n = t ∷ Named x ∷ Fixed mark.OpenSquare ∷ Number n ∷ Fixed mark.CloseSquare ∷ Fixed mark.Semicolon ∷ []

-- no text has the reference of a function
abbrev pub global_tokens : GlobalItem → List Token
global_tokens (Scalar x start critical) = scalar_word critical ∷ Named x ∷ Fixed mark.Assign ∷ start_tokens start ++ Fixed mark.Semicolon ∷ []
global_tokens (FnScalar x params) = []
global_tokens (Array x n) = length_tokens (Fixed mark.Array) x n
global_tokens (CriticalArray x n) = length_tokens (Fixed mark.Critical) x n

abbrev pub function_tokens : Role → Word → List Word → List Token → List Token
function_tokens Plain x xs body = Fixed mark.Fn ∷ Named x ∷ Fixed mark.OpenRound ∷ names xs ++ Fixed mark.CloseRound ∷ body
function_tokens (Operation n) x xs body = Fixed mark.Operation ∷ Number n ∷ Named x ∷ Fixed mark.OpenRound ∷ names xs ++ Fixed mark.CloseRound ∷ body
function_tokens Main x xs body = Fixed mark.Main ∷ body

abbrev pub item_tokens : Item → List Token
item_tokens (global g) = global_tokens g
item_tokens (function f) = function_tokens f.role f.name f.params (braced_tokens f.body)

abbrev pub text_tokens : List Item → List Token
text_tokens [] = []
text_tokens (i ∷ is) = item_tokens i ++ text_tokens is
