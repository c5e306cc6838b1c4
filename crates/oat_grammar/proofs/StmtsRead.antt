-- A body of the grammar is read: behind its statements the machine is at its end with these statements.
use Rattle.std.proofs.Common.{◌≡◌, Bool, true, false, List, [], ◌∷◌, ◌++◌, Option, Some, refl, sym, ◌∙◌, ap, subst, arith}
use Rattle.std.specs.Option.{option_and_then}
use Rattle.std.proofs.lemmas.List.{append_assoc, append-nil}
use Rattle.oat_grammar.specs.declared.token.Mark.TheVariants as mark
use Rattle.oat_grammar.specs.declared.token.Token.{Token}
use Rattle.oat_grammar.specs.declared.token.Token.TheVariants.{Fixed}
use Rattle.oat_tree.specs.Syntax.{Word, Expr, Exprs, Stmt, choose, repeat, call_only, Body, no_stmts, stmt, Item, body_of_list}
use Rattle.oat_grammar.specs.Grammar.{IsExpr, IsArguments, none, some, IsStmt, declares, assigns, stores, chooses, chooses_else, repeats, puts, returns, halts, calls, IsStmts, empty, first, IsBody, braced}
use Rattle.oat_grammar.specs.Machine.{bottom, Use, to_declare, to_assign, to_index, to_store, to_choose, to_repeat, to_put, to_return, to_call, Outer, in_choice, in_else, in_loop, at_stmt, at_operand, at_operator, at_choice, at_end, Place, inside, closes, level_of, choice_next, stmt_next, next, goes}
use Rattle.oat_grammar.proofs.ExprsRead.{is_opening, joins, listed, Listing, regroup}

abbrev pub listed_body : Body → List Stmt
listed_body no_stmts = []
listed_body (stmt s b) = s ∷ listed_body b

pub body_again : (b : Body) → body_of_list (listed_body b) ≡ b
body_again no_stmts = refl
body_again (stmt s b) = ap (stmt s) (body_again b)

-- what may follow a statement: a token that isn't `else`
abbrev pub is_else : Token → Bool
is_else (Fixed mark.Else) = true
is_else _ = false

abbrev pub NotElse : List Token → Type 0
NotElse [] = ⊥
NotElse (t ∷ ts) = is_else t ≡ false

choice_plain : (is : List Item) (ss : List Stmt) (o : Outer) (e : Expr) (a : Body) (t : Token) → is_else t ≡ false → choice_next is ss o e a t ≡ stmt_next is (ss ++ choose e a no_stmts ∷ []) o t
choice_plain is ss o e a (Fixed mark.Else) h = cc
choice_plain is ss o e a _ h = refl

behind_choice : (is : List Item) (ss : List Stmt) (o : Outer) (e : Expr) (a : Body) (ts : List Token) → NotElse ts
    → goes ts (inside is ss o (at_choice e a)) ≡ goes ts (inside is (ss ++ choose e a no_stmts ∷ []) o at_stmt)
behind_choice is ss o e a [] h = absurd h
behind_choice is ss o e a (t ∷ ts) h = rw (choice_plain is ss o e a t h) refl

-- an expression up to the token that ends it
up_to : {ts : List Token} {e : Expr} → IsExpr ts e → (is : List Item) (ss : List Stmt) (o : Outer) (u : Use) (t : Token) (us rest : List Token) → is_opening t ≡ false → level_of t ≡ 0
    → goes ((ts ++ t ∷ us) ++ rest) (inside is ss o (at_operand u bottom)) ≡ goes (t ∷ us ++ rest) (inside is ss o (at_operator e u bottom))
up_to {ts} {e} d is ss o u t us rest h le = regroup ts (t ∷ us) rest (inside is ss o (at_operand u bottom)) ∙ joins d is ss o u bottom t (us ++ rest) tt h (omega arith)

calling_only : List Item → List Stmt → Outer → Word → Listing
calling_only is ss o f = record { items = is; before = ss; outer = o; use_at = to_call f; pending_at = λ es. bottom; end_at = λ es. inside is ss o (at_end (call_only f es)) }

only_arguments : {ts : List Token} {es : Exprs} → IsArguments ts es → (is : List Item) (ss : List Stmt) (o : Outer) (f : Word) (rest : List Token)
    → goes (ts ++ Fixed mark.CloseRound ∷ rest) (inside is ss o (at_operand (to_call f []) bottom)) ≡ goes rest (inside is ss o (at_end (call_only f es)))
unfolding calling_only
only_arguments none is ss o f rest = refl
only_arguments (some d) is ss o f rest = listed d (calling_only is ss o f) (record { opened = λ es. tt; goes_on = λ es e t. refl }) [] rest (omega arith)

starts : {ts : List Token} {s : Stmt} → IsStmt ts s → (rest : List Token) → NotElse (ts ++ rest)
starts (declares x d) rest = refl
starts (assigns x d) rest = refl
starts (stores x d e) rest = refl
starts (chooses d e) rest = refl
starts (chooses_else d e f) rest = refl
starts (repeats d e) rest = refl
starts (puts d) rest = refl
starts (returns d) rest = refl
starts halts rest = refl
starts (calls f d) rest = refl

goes_on : {ts : List Token} {b : Body} → IsStmts ts b → (rest : List Token) → NotElse (ts ++ Fixed mark.CloseBrace ∷ rest)
goes_on empty rest = refl
goes_on (first {us} {s} {vs} {b} d ds) rest = subst NotElse (sym (append_assoc us vs (Fixed mark.CloseBrace ∷ rest))) (starts d (vs ++ Fixed mark.CloseBrace ∷ rest))

both : (is : List Item) (ss : List Stmt) (o : Outer) (e : Expr) (rest : List Token) {a b c d : Body} → a ≡ b → c ≡ d
    → goes rest (inside is (ss ++ choose e a c ∷ []) o at_stmt) ≡ goes rest (inside is (ss ++ choose e b d ∷ []) o at_stmt)
both is ss o e rest h i = rw (h, i) refl

mutual
  pub statement : {ts : List Token} {s : Stmt} → IsStmt ts s → (is : List Item) (ss : List Stmt) (o : Outer) (rest : List Token) → NotElse rest
      → goes (ts ++ rest) (inside is ss o at_stmt) ≡ goes rest (inside is (ss ++ s ∷ []) o at_stmt)
  statement (declares x d) is ss o rest h = up_to d is ss o (to_declare x) (Fixed mark.Semicolon) [] rest refl refl
  statement (assigns x d) is ss o rest h = up_to d is ss o (to_assign x) (Fixed mark.Semicolon) [] rest refl refl
  statement (stores x {us} {e} {vs} {f} d c) is ss o rest h =
      regroup (us ++ Fixed mark.CloseSquare ∷ Fixed mark.Assign ∷ vs) (Fixed mark.Semicolon ∷ []) rest (inside is ss o (at_operand (to_index x) bottom))
      ∙ up_to d is ss o (to_index x) (Fixed mark.CloseSquare) (Fixed mark.Assign ∷ vs) (Fixed mark.Semicolon ∷ rest) refl refl
      ∙ joins c is ss o (to_store x e) bottom (Fixed mark.Semicolon) rest tt refl (omega arith)
  statement (chooses {ts} {e} d (braced {ts = ws} {b = a} ds)) is ss o rest h =
      up_to d is ss o to_choose (Fixed mark.OpenBrace) (ws ++ Fixed mark.CloseBrace ∷ []) rest refl refl
      ∙ regroup ws (Fixed mark.CloseBrace ∷ []) rest (inside is [] (in_choice e ss o) at_stmt)
      ∙ statements ds is [] (in_choice e ss o) rest
      ∙ ap (λ (b : Body). goes rest (inside is ss o (at_choice e b))) (body_again a)
      ∙ behind_choice is ss o e a rest h
  statement (chooses_else {ts} {e} d (braced {ts = ws} {b = a} ds) (braced {ts = xs} {b = b} fs)) is ss o rest h =
      regroup (ts ++ (Fixed mark.OpenBrace ∷ ws ++ Fixed mark.CloseBrace ∷ [])) (Fixed mark.Else ∷ Fixed mark.OpenBrace ∷ xs ++ Fixed mark.CloseBrace ∷ []) rest (inside is ss o (at_operand to_choose bottom))
      ∙ up_to d is ss o to_choose (Fixed mark.OpenBrace) (ws ++ Fixed mark.CloseBrace ∷ []) (Fixed mark.Else ∷ Fixed mark.OpenBrace ∷ xs ++ Fixed mark.CloseBrace ∷ [] ++ rest) refl refl
      ∙ regroup ws (Fixed mark.CloseBrace ∷ []) (Fixed mark.Else ∷ Fixed mark.OpenBrace ∷ xs ++ Fixed mark.CloseBrace ∷ [] ++ rest) (inside is [] (in_choice e ss o) at_stmt)
      ∙ statements ds is [] (in_choice e ss o) (Fixed mark.Else ∷ Fixed mark.OpenBrace ∷ xs ++ Fixed mark.CloseBrace ∷ [] ++ rest)
      ∙ regroup xs (Fixed mark.CloseBrace ∷ []) rest (inside is [] (in_else e (body_of_list (listed_body a)) ss o) at_stmt)
      ∙ statements fs is [] (in_else e (body_of_list (listed_body a)) ss o) rest
      ∙ both is ss o e rest (body_again a) (body_again b)
  statement (repeats {ts} {e} d (braced {ts = ws} {b = a} ds)) is ss o rest h =
      up_to d is ss o to_repeat (Fixed mark.OpenBrace) (ws ++ Fixed mark.CloseBrace ∷ []) rest refl refl
      ∙ regroup ws (Fixed mark.CloseBrace ∷ []) rest (inside is [] (in_loop e ss o) at_stmt)
      ∙ statements ds is [] (in_loop e ss o) rest
      ∙ ap (λ (b : Body). goes rest (inside is (ss ++ repeat e b ∷ []) o at_stmt)) (body_again a)
  statement (puts d) is ss o rest h = up_to d is ss o to_put (Fixed mark.Semicolon) [] rest refl refl
  statement (returns d) is ss o rest h = up_to d is ss o to_return (Fixed mark.Semicolon) [] rest refl refl
  statement halts is ss o rest h = refl
  statement (calls f {ts} {es} d) is ss o rest h =
      regroup ts (Fixed mark.CloseRound ∷ Fixed mark.Semicolon ∷ []) rest (inside is ss o (at_operand (to_call f []) bottom))
      ∙ only_arguments d is ss o f (Fixed mark.Semicolon ∷ rest)

  pub statements : {ts : List Token} {b : Body} → IsStmts ts b → (is : List Item) (ss : List Stmt) (o : Outer) (rest : List Token)
      → goes (ts ++ Fixed mark.CloseBrace ∷ rest) (inside is ss o at_stmt) ≡ goes rest (closes is (ss ++ listed_body b) o)
  statements empty is ss o rest = ap (λ (xs : List Stmt). goes rest (closes is xs o)) (sym (append-nil ss))
  statements (first {us} {s} {vs} {b} d ds) is ss o rest =
      regroup us vs (Fixed mark.CloseBrace ∷ rest) (inside is ss o at_stmt)
      ∙ statement d is ss o (vs ++ Fixed mark.CloseBrace ∷ rest) (goes_on ds rest)
      ∙ statements ds is (ss ++ s ∷ []) o rest
      ∙ ap (λ (xs : List Stmt). goes rest (closes is xs o)) (append_assoc ss (s ∷ []) (listed_body b))

pub body : {ts : List Token} {b : Body} → IsBody ts b → (is : List Item) (o : Outer) (rest : List Token) (p : Place) → next p (Fixed mark.OpenBrace) ≡ Some (inside is [] o at_stmt)
    → goes (ts ++ rest) p ≡ goes rest (closes is (listed_body b) o)
body (braced {ts} {b} ds) is o rest p h =
    ap (λ (q : Option Place). option_and_then (goes (ts ++ Fixed mark.CloseBrace ∷ [] ++ rest)) q) h
    ∙ regroup ts (Fixed mark.CloseBrace ∷ []) rest (inside is [] o at_stmt) ∙ statements ds is [] o rest
