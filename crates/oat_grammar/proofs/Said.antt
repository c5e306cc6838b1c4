-- What the tokens before a place are: as much of a text of the grammar as the place says.
use Rattle.std.proofs.Common.{◌≡◌, ℕ, suc, ◌+◌, ◌≤◌, ◌<◌, Bool, true, false, List, [], ◌∷◌, ◌++◌, length}
use Rattle.oat_tree.specs.Levels.{level}
use Rattle.oat_ir.specs.declared.func.Role.{Role}
use Rattle.oat_grammar.specs.declared.token.Mark.TheVariants as mark
use Rattle.oat_tree.specs.declared.operator.Operator.TheVariants.{Minus}
use Rattle.oat_grammar.specs.declared.token.Token.{Token}
use Rattle.oat_grammar.specs.declared.token.Token.TheVariants.{Named, Number, Fixed, Sign}
use Rattle.oat_tree.specs.Syntax.{Word, Expr, Exprs, Stmt, Body, Item, global, function, body_of_list}
use Rattle.oat_grammar.specs.Grammar.{IsUnary, IsJoined, IsExpr, IsListed, IsStmt, IsStmts, IsBody, names, scalar_word, IsItem, IsText}
use Rattle.oat_grammar.specs.Machine.{Pending, bottom, minus_before, left_of, in_brackets, index_of, argument_of, Use, to_declare, to_assign, to_index, to_store, to_choose, to_repeat, to_put, to_return, to_call, Outer, in_function, in_choice, in_else, in_loop, Inside, at_stmt, at_var, at_declare, at_target, at_stored, at_end, at_choice, at_else, at_operand, at_name, at_operator, Heading, at_global, at_array, at_critical, at_equals, at_square, at_either, at_start, at_minus, at_length, at_closing, at_last, at_id, at_function, at_open, at_first, at_comma, at_param, at_body, Place, between, heading, inside, Operand}
use Rattle.oat_grammar.proofs.ExprsRead.{with_more}

-- ---- expressions

-- arguments with a comma behind each
pub record ArgumentsBefore (es : List Expr) (ts : List Token) : Type 0 where
  pub few : length es ≤ 3
  pub empty : es ≡ [] → ts ≡ []
  pub extends : {n : ℕ} {us : List Token} {fs : Exprs} → IsListed n us fs → IsListed (length es + n) (ts ++ us) (with_more es fs)

-- the tokens of a statement before its expression
abbrev pub Begun : Use → List Token → Type 0
Begun (to_declare x) ts = ts ≡ Fixed mark.Var ∷ Named x ∷ Fixed mark.Assign ∷ []
Begun (to_assign x) ts = ts ≡ Named x ∷ Fixed mark.Assign ∷ []
Begun (to_index x) ts = ts ≡ Named x ∷ Fixed mark.OpenSquare ∷ []
Begun (to_store x e) ts = (us : List Token) × IsExpr us e × (ts ≡ Named x ∷ Fixed mark.OpenSquare ∷ us ++ Fixed mark.CloseSquare ∷ Fixed mark.Assign ∷ [])
Begun to_choose ts = ts ≡ Fixed mark.If ∷ []
Begun to_repeat ts = ts ≡ Fixed mark.While ∷ []
Begun to_put ts = ts ≡ Fixed mark.Out ∷ []
Begun to_return ts = ts ≡ Fixed mark.Return ∷ []
Begun (to_call f es) ts = (us : List Token) × ArgumentsBefore es us × (ts ≡ Named f ∷ Fixed mark.OpenRound ∷ us)

-- how tight an expression has to be that stands behind
abbrev pub need : Pending → ℕ
need (left_of op a p) = suc (level op)
need (minus_before p) = 7
need _ = 0

-- the tokens of a statement before an operand
abbrev pub Opened : Use → Pending → List Token → Type 0
Opened u bottom ts = Begun u ts
Opened u (minus_before p) ts = (us : List Token) × Opened u p us × (ts ≡ us ++ Sign Minus ∷ [])
Opened u (left_of op a p) ts = (us : List Token) × (vs : List Token) × Opened u p us × IsJoined (level op) vs a × (need p ≤ level op) × (ts ≡ us ++ (vs ++ Sign op ∷ []))
Opened u (in_brackets p) ts = (us : List Token) × Opened u p us × (ts ≡ us ++ Fixed mark.OpenRound ∷ [])
Opened u (index_of x p) ts = (us : List Token) × Opened u p us × (ts ≡ us ++ Named x ∷ Fixed mark.OpenSquare ∷ [])
Opened u (argument_of f es p) ts = (us : List Token) × (vs : List Token) × Opened u p us × ArgumentsBefore es vs × (ts ≡ us ++ Named f ∷ Fixed mark.OpenRound ∷ vs)

-- behind an expression with nothing before it that binds it as tight as the level
pub record Settled (u : Use) (l : ℕ) (x : Operand) (ts : List Token) : Type 0 where
  pub before : List Token
  pub own : List Token
  pub opened : Opened u x.pending before
  pub fits : IsJoined (need x.pending) own x.value
  pub tight : IsJoined l own x.value
  pub needs : need x.pending ≤ l
  pub cut : ts ≡ before ++ own

-- ---- statements

-- the tokens of a statement up to a place in it
abbrev pub Local : Inside → List Token → Type 0
Local at_stmt ts = ts ≡ []
Local at_var ts = ts ≡ Fixed mark.Var ∷ []
Local (at_declare x) ts = ts ≡ Fixed mark.Var ∷ Named x ∷ []
Local (at_target x) ts = ts ≡ Named x ∷ []
Local (at_stored x e) ts = (us : List Token) × IsExpr us e × (ts ≡ Named x ∷ Fixed mark.OpenSquare ∷ us ++ Fixed mark.CloseSquare ∷ [])
Local (at_end s) ts = IsStmt (ts ++ Fixed mark.Semicolon ∷ []) s
Local (at_choice e a) ts = (us : List Token) × (vs : List Token) × IsExpr us e × IsBody vs a × (ts ≡ Fixed mark.If ∷ us ++ vs)
Local (at_else e a) ts = (us : List Token) × (vs : List Token) × IsExpr us e × IsBody vs a × (ts ≡ Fixed mark.If ∷ us ++ vs ++ Fixed mark.Else ∷ [])
Local (at_operand u p) ts = Opened u p ts
Local (at_name x u p) ts = (us : List Token) × Opened u p us × (ts ≡ us ++ Named x ∷ [])
Local (at_operator e u p) ts = (us : List Token) × (vs : List Token) × Opened u p us × IsUnary vs e × (ts ≡ us ++ vs)

-- the tokens of an item before its body: with any body they are an item
abbrev pub IsHead : Role → Word → List Word → List Token → Type 0
IsHead r x xs ts = (us : List Token) (b : Body) → IsBody us b → IsItem (ts ++ us) (function (record { name = x; role = r; params = xs; body = b }))

-- the tokens of a text up to the brace of the innermost open body
abbrev pub InBody : List Item → Outer → List Token → Type 0
InBody is (in_function r x xs) ts = (us : List Token) × (vs : List Token) × IsText us is × IsHead r x xs vs × (ts ≡ us ++ (vs ++ Fixed mark.OpenBrace ∷ []))
InBody is (in_choice e ss o) ts = (us : List Token) × (vs : List Token) × (ws : List Token) × InBody is o us × IsStmts vs (body_of_list ss) × IsExpr ws e × (ts ≡ (us ++ vs) ++ (Fixed mark.If ∷ ws ++ Fixed mark.OpenBrace ∷ []))
InBody is (in_else e a ss o) ts = (us : List Token) × (vs : List Token) × (ws : List Token) × (xs : List Token) × InBody is o us × IsStmts vs (body_of_list ss) × IsExpr ws e × IsBody xs a × (ts ≡ (us ++ vs) ++ (Fixed mark.If ∷ ws ++ xs ++ Fixed mark.Else ∷ Fixed mark.OpenBrace ∷ []))
InBody is (in_loop e ss o) ts = (us : List Token) × (vs : List Token) × (ws : List Token) × InBody is o us × IsStmts vs (body_of_list ss) × IsExpr ws e × (ts ≡ (us ++ vs) ++ (Fixed mark.While ∷ ws ++ Fixed mark.OpenBrace ∷ []))

-- the tokens of a text up to the end of a statement
pub record Within (is : List Item) (ss : List Stmt) (o : Outer) (ts : List Token) : Type 0 where
  pub before : List Token
  pub own : List Token
  pub outside : InBody is o before
  pub stmts : IsStmts own (body_of_list ss)
  pub cut : ts ≡ before ++ own

-- ---- items

abbrev pub array_word : Bool → Token
array_word true = Fixed mark.Critical
array_word false = Fixed mark.Array

-- the tokens of an item up to its parameters: with any parameters and body they are an item
abbrev pub Begins : Role → Word → List Token → Type 0
Begins r x ts = (xs : List Word) → length xs ≤ 4 → IsHead r x xs (ts ++ (names xs ++ Fixed mark.CloseRound ∷ []))

-- the tokens of an item up to a place in it
abbrev pub Header : Heading → List Token → Type 0
Header at_global ts = ts ≡ Fixed mark.Global ∷ []
Header at_array ts = ts ≡ Fixed mark.Array ∷ []
Header at_critical ts = ts ≡ Fixed mark.Critical ∷ []
Header (at_equals x) ts = ts ≡ Fixed mark.Global ∷ Named x ∷ []
Header (at_square x) ts = ts ≡ Fixed mark.Array ∷ Named x ∷ []
Header (at_either x) ts = ts ≡ Fixed mark.Critical ∷ Named x ∷ []
Header (at_start c x) ts = ts ≡ scalar_word c ∷ Named x ∷ Fixed mark.Assign ∷ []
Header (at_minus c x) ts = ts ≡ scalar_word c ∷ Named x ∷ Fixed mark.Assign ∷ Sign Minus ∷ []
Header (at_length c x) ts = ts ≡ array_word c ∷ Named x ∷ Fixed mark.OpenSquare ∷ []
Header (at_closing c x n) ts = ts ≡ array_word c ∷ Named x ∷ Fixed mark.OpenSquare ∷ Number n ∷ []
Header (at_last i) ts = IsItem (ts ++ Fixed mark.Semicolon ∷ []) (global i)
Header at_id ts = ts ≡ Fixed mark.Operation ∷ []
Header (at_function r) ts = (x : Word) → Begins r x (ts ++ Named x ∷ Fixed mark.OpenRound ∷ [])
Header (at_open r x) ts = Begins r x (ts ++ Fixed mark.OpenRound ∷ [])
Header (at_first r x) ts = Begins r x ts
Header (at_comma r x xs) ts = (us : List Token) × Begins r x us × (0 < length xs) × (length xs ≤ 4) × (ts ≡ us ++ names xs)
Header (at_param r x xs) ts = (us : List Token) × Begins r x us × (0 < length xs) × (length xs < 4) × (ts ≡ us ++ (names xs ++ Fixed mark.Comma ∷ []))
Header (at_body r x xs) ts = IsHead r x xs ts

-- ---- texts

abbrev pub Said : Place → List Token → Type 0
Said (between is) ts = IsText ts is
Said (heading is h) ts = (us : List Token) × (vs : List Token) × IsText us is × Header h vs × (ts ≡ us ++ vs)
Said (inside is ss o i) ts = (us : List Token) × (vs : List Token) × Within is ss o us × Local i vs × (ts ≡ us ++ vs)
