-- The grammar: which lists of tokens are a text of the structured language, and of which tree.
use Rattle.std.specs.Prelude.{ℕ, suc, ◌≤◌, List, [], ◌∷◌, ◌++◌, length, ℤ, pos, ◌-ℤ◌, Bool, true, false, codes}
use Rattle.oat_ir.specs.declared.func.Role.TheVariants.{Plain, Operation, Main}
use Rattle.oat_ir.specs.declared.program.GlobalItem.TheVariants.{Scalar, Array, CriticalArray}
use Rattle.oat_grammar.specs.declared.token.Mark.TheVariants as mark
use Rattle.oat_tree.specs.declared.operator.Operator.{Operator}
use Rattle.oat_tree.specs.declared.operator.Operator.TheVariants.{Minus}
use Rattle.oat_tree.specs.Levels.{level}
use Rattle.oat_grammar.specs.declared.token.Token.{Token}
use Rattle.oat_grammar.specs.declared.token.Token.TheVariants.{Named, Number, Fixed, Sign}
use Rattle.oat_tree.specs.Syntax.{Word, Expr, number, name, element, call, input, negative, binary, Exprs, no_exprs, expr, Stmt, declare, assign, assign_element, choose, repeat, put, return, halt, call_only, Body, no_stmts, stmt, Item, global, function}

-- ---- expressions

mutual
  -- an operand
  pub data IsUnary : List Token → Expr → Type 0 where
    numbered : (n : ℕ) → IsUnary (Number n ∷ []) (number n)
    named : (x : Word) → IsUnary (Named x ∷ []) (name x)
    indexed : (x : Word) {ts : List Token} {e : Expr} → IsJoined 0 ts e → IsUnary (Named x ∷ Fixed mark.OpenSquare ∷ ts ++ Fixed mark.CloseSquare ∷ []) (element x e)
    called : (f : Word) {ts : List Token} {es : Exprs} → IsArguments ts es → IsUnary (Named f ∷ Fixed mark.OpenRound ∷ ts ++ Fixed mark.CloseRound ∷ []) (call f es)
    taken : IsUnary (Fixed mark.In ∷ []) input
    negated : {ts : List Token} {e : Expr} → IsUnary ts e → IsUnary (Sign Minus ∷ ts) (negative e)
    bracketed : {ts : List Token} {e : Expr} → IsJoined 0 ts e → IsUnary (Fixed mark.OpenRound ∷ ts ++ Fixed mark.CloseRound ∷ []) e

  -- Operands and operators of a level or tighter. Left of an operator stand those of its level, right of it only tighter ones.
  pub data IsJoined : ℕ → List Token → Expr → Type 0 where
    alone : {l : ℕ} {ts : List Token} {e : Expr} → IsUnary ts e → IsJoined l ts e
    joined : {l : ℕ} (o : Operator) {us : List Token} {a : Expr} {vs : List Token} {b : Expr} → l ≤ level o → IsJoined (level o) us a → IsJoined (suc (level o)) vs b → IsJoined l (us ++ Sign o ∷ vs) (binary o a b)

  -- nothing, or one to four expressions with commas between
  pub data IsArguments : List Token → Exprs → Type 0 where
    none : IsArguments [] no_exprs
    some : {ts : List Token} {es : Exprs} → IsListed 4 ts es → IsArguments ts es

  -- at least one expression, and at most so many
  pub data IsListed : ℕ → List Token → Exprs → Type 0 where
    last : {n : ℕ} {ts : List Token} {e : Expr} → IsJoined 0 ts e → IsListed (suc n) ts (expr e no_exprs)
    more : {n : ℕ} {us : List Token} {e : Expr} {vs : List Token} {es : Exprs} → IsJoined 0 us e → IsListed n vs es → IsListed (suc n) (us ++ Fixed mark.Comma ∷ vs) (expr e es)

abbrev pub IsExpr : List Token → Expr → Type 0
IsExpr ts e = IsJoined 0 ts e

-- ---- statements

mutual
  pub data IsStmt : List Token → Stmt → Type 0 where
    declares : (x : Word) {ts : List Token} {e : Expr} → IsExpr ts e → IsStmt (Fixed mark.Var ∷ Named x ∷ Fixed mark.Assign ∷ ts ++ Fixed mark.Semicolon ∷ []) (declare x e)
    assigns : (x : Word) {ts : List Token} {e : Expr} → IsExpr ts e → IsStmt (Named x ∷ Fixed mark.Assign ∷ ts ++ Fixed mark.Semicolon ∷ []) (assign x e)
    stores : (x : Word) {us : List Token} {e : Expr} {vs : List Token} {f : Expr} → IsExpr us e → IsExpr vs f → IsStmt (Named x ∷ Fixed mark.OpenSquare ∷ us ++ Fixed mark.CloseSquare ∷ Fixed mark.Assign ∷ vs ++ Fixed mark.Semicolon ∷ []) (assign_element x e f)
    chooses : {ts : List Token} {e : Expr} {us : List Token} {a : Body} → IsExpr ts e → IsBody us a → IsStmt (Fixed mark.If ∷ ts ++ us) (choose e a no_stmts)
    chooses_else : {ts : List Token} {e : Expr} {us : List Token} {a : Body} {vs : List Token} {b : Body} → IsExpr ts e → IsBody us a → IsBody vs b → IsStmt (Fixed mark.If ∷ ts ++ us ++ Fixed mark.Else ∷ vs) (choose e a b)
    repeats : {ts : List Token} {e : Expr} {us : List Token} {a : Body} → IsExpr ts e → IsBody us a → IsStmt (Fixed mark.While ∷ ts ++ us) (repeat e a)
    puts : {ts : List Token} {e : Expr} → IsExpr ts e → IsStmt (Fixed mark.Out ∷ ts ++ Fixed mark.Semicolon ∷ []) (put e)
    returns : {ts : List Token} {e : Expr} → IsExpr ts e → IsStmt (Fixed mark.Return ∷ ts ++ Fixed mark.Semicolon ∷ []) (return e)
    halts : IsStmt (Fixed mark.Halt ∷ Fixed mark.Semicolon ∷ []) halt
    calls : (f : Word) {ts : List Token} {es : Exprs} → IsArguments ts es → IsStmt (Named f ∷ Fixed mark.OpenRound ∷ ts ++ Fixed mark.CloseRound ∷ Fixed mark.Semicolon ∷ []) (call_only f es)

  pub data IsStmts : List Token → Body → Type 0 where
    empty : IsStmts [] no_stmts
    first : {us : List Token} {s : Stmt} {vs : List Token} {b : Body} → IsStmt us s → IsStmts vs b → IsStmts (us ++ vs) (stmt s b)

  pub data IsBody : List Token → Body → Type 0 where
    braced : {ts : List Token} {b : Body} → IsStmts ts b → IsBody (Fixed mark.OpenBrace ∷ ts ++ Fixed mark.CloseBrace ∷ []) b

-- ---- items

-- a number with an optional minus
pub data IsStart : List Token → ℤ → Type 0 where
  plain : (n : ℕ) → IsStart (Number n ∷ []) (pos n)
  minus : (n : ℕ) → IsStart (Sign Minus ∷ Number n ∷ []) (pos 0 -ℤ pos n)

-- the names of parameters with commas between
abbrev pub names_behind : List Word → List Token
names_behind [] = []
names_behind (x ∷ xs) = Fixed mark.Comma ∷ Named x ∷ names_behind xs

abbrev pub names : List Word → List Token
names [] = []
names (x ∷ xs) = Named x ∷ names_behind xs

abbrev pub scalar_word : Bool → Token
scalar_word true = Fixed mark.Critical
scalar_word false = Fixed mark.Global

pub data IsItem : List Token → Item → Type 0 where
  scalar : (critical : Bool) (x : Word) {ts : List Token} {start : ℤ} → IsStart ts start → IsItem (scalar_word critical ∷ Named x ∷ Fixed mark.Assign ∷ ts ++ Fixed mark.Semicolon ∷ []) (global (Scalar x start critical))
  array : (x : Word) (n : ℕ) → IsItem (Fixed mark.Array ∷ Named x ∷ Fixed mark.OpenSquare ∷ Number n ∷ Fixed mark.CloseSquare ∷ Fixed mark.Semicolon ∷ []) (global (Array x n))
  critical_array : (x : Word) (n : ℕ) → IsItem (Fixed mark.Critical ∷ Named x ∷ Fixed mark.OpenSquare ∷ Number n ∷ Fixed mark.CloseSquare ∷ Fixed mark.Semicolon ∷ []) (global (CriticalArray x n))
  plain_function : (x : Word) (params : List Word) {ts : List Token} {b : Body} → length params ≤ 4 → IsBody ts b → IsItem (Fixed mark.Fn ∷ Named x ∷ Fixed mark.OpenRound ∷ names params ++ Fixed mark.CloseRound ∷ ts) (function (record { name = x; role = Plain; params = params; body = b }))
  operation : (n : ℕ) (x : Word) (params : List Word) {ts : List Token} {b : Body} → length params ≤ 4 → IsBody ts b → IsItem (Fixed mark.Operation ∷ Number n ∷ Named x ∷ Fixed mark.OpenRound ∷ names params ++ Fixed mark.CloseRound ∷ ts) (function (record { name = x; role = Operation n; params = params; body = b }))
  main : {ts : List Token} {b : Body} → IsBody ts b → IsItem (Fixed mark.Main ∷ ts) (function (record { name = codes "main"; role = Main; params = []; body = b }))

-- the text of a tree
pub data IsText : List Token → List Item → Type 0 where
  nothing : IsText [] []
  next : {us : List Token} {i : Item} {vs : List Token} {is : List Item} → IsItem us i → IsText vs is → IsText (us ++ vs) (i ∷ is)
