-- A token in a body leads to a place that says what the tokens up to it are.
use Rattle.std.proofs.Common.{◌≡◌, ◌≤◌, List, [], ◌∷◌, ◌++◌, Some, refl, sym, ◌∙◌, ap, subst, arith}
use Rattle.std.specs.Option.{option_map}
use Rattle.std.proofs.lemmas.List.{append_assoc, append-nil}
use Rattle.oat_grammar.specs.declared.token.Mark.TheVariants as mark
use Rattle.oat_tree.specs.declared.operator.Operator.TheVariants.{Minus}
use Rattle.oat_grammar.specs.declared.token.Token.{Token}
use Rattle.oat_grammar.specs.declared.token.Token.TheVariants.{Named, Number, Fixed, Sign}
use Rattle.oat_tree.specs.Syntax.{Word, Expr, name, call, no_exprs, Stmt, choose, repeat, call_only, Body, no_stmts, stmt, Item, function, body_of_list, exprs_of_list}
use Rattle.oat_grammar.specs.Grammar.{IsUnary, numbered, named, indexed, called, taken, bracketed, alone, IsExpr, none, IsStmt, declares, assigns, stores, chooses, chooses_else, repeats, puts, returns, halts, calls, IsStmts, empty, first, braced, IsItem, IsText, nothing, next}
use Rattle.oat_grammar.specs.Machine.{Pending, bottom, minus_before, left_of, in_brackets, index_of, argument_of, Use, to_declare, to_assign, to_index, to_store, to_choose, to_repeat, to_put, to_return, to_call, Outer, in_function, in_choice, in_else, in_loop, Inside, at_stmt, at_var, at_declare, at_target, at_stored, at_end, at_choice, at_else, at_operand, at_name, at_operator, Place, inside, Operand, settled, level_of, settled_next, operator_next, name_next, closed_next, use_next, operand_next, no_arguments, stmt_next, choice_next, target_next, inside_next, closes}
use Rattle.oat_grammar.proofs.Said.{Begun, Opened, Settled, Local, InBody, Within, Said}
use Rattle.oat_grammar.proofs.ExprsSaid.{map_some, none_some, giving, wanting, naming, level_low, snoc, settles, no_arguments_before, argument_more, arguments_whole, arguing}

-- ---- the end of a list grows

pub stmts_more : {us : List Token} (ss : List Stmt) {vs : List Token} {s : Stmt} → IsStmts us (body_of_list ss) → IsStmt vs s → IsStmts (us ++ vs) (body_of_list (ss ++ s ∷ []))
stmts_more [] {vs} {s} empty e = subst (λ (xs : List Token). IsStmts xs (stmt s no_stmts)) (append-nil vs) (first e empty)
stmts_more (r ∷ ss) {vs} {s} (first {us} {vs = ws} d ds) e = subst (λ (xs : List Token). IsStmts xs (stmt r (body_of_list (ss ++ s ∷ [])))) (sym (append_assoc us ws vs)) (first d (stmts_more ss ds e))

pub text_more : {us vs : List Token} {is : List Item} {i : Item} → IsText us is → IsItem vs i → IsText (us ++ vs) (is ++ i ∷ [])
text_more {vs} {i} nothing e = subst (λ (xs : List Token). IsText xs (i ∷ [])) (append-nil vs) (next e nothing)
text_more {vs} {i} (next {us} {i = j} {vs = ws} {is} d ds) e = subst (λ (xs : List Token). IsText xs (j ∷ is ++ i ∷ [])) (sym (append_assoc us ws vs)) (next d (text_more ds e))

-- ---- places

pub at_statement : {is : List Item} {ss : List Stmt} {o : Outer} {ts : List Token} → Within is ss o ts → Said (inside is ss o at_stmt) ts
at_statement {ts} w = (ts, [], w, refl, sym (append-nil ts))

stmt_done : {is : List Item} {ss : List Stmt} {o : Outer} {us vs : List Token} {s : Stmt} → Within is ss o us → IsStmt vs s → Within is (ss ++ s ∷ []) o (us ++ vs)
stmt_done {ss} {vs} w d = record {
  before = w.before;
  own = w.own ++ vs;
  outside = w.outside;
  stmts = stmts_more ss w.stmts d;
  cut = ap (λ (xs : List Token). xs ++ vs) w.cut ∙ append_assoc w.before w.own vs;
}

-- a statement ends
done : {is : List Item} {ss : List Stmt} {o : Outer} {us vs ws : List Token} {s : Stmt} → Within is ss o us → vs ≡ ws → IsStmt ws s → Said (inside is (ss ++ s ∷ []) o at_stmt) (us ++ vs)
done {s} w h d = at_statement (stmt_done w (subst (λ (xs : List Token). IsStmt xs s) (sym h) d))

-- a body opens
pub body_opens : {is : List Item} {o : Outer} {ts : List Token} → InBody is o ts → Said (inside is [] o at_stmt) ts
body_opens {ts} b = at_statement (record { before = ts; own = []; outside = b; stmts = empty; cut = sym (append-nil ts) })

within_again : {is : List Item} {ss : List Stmt} {o : Outer} (us vs : List Token) → InBody is o us → IsStmts vs (body_of_list ss) → Within is ss o (us ++ vs)
within_again us vs b d = record { before = us; own = vs; outside = b; stmts = d; cut = refl }

function_tokens : (ts us own hs zs : List Token) (before : List Token) → ts ≡ before ++ own → before ≡ us ++ (hs ++ Fixed mark.OpenBrace ∷ []) → ts ++ zs ≡ us ++ (hs ++ (Fixed mark.OpenBrace ∷ own ++ zs))
function_tokens ts us own hs zs before h i = rw (h, i) (simp append_assoc)

choice_tokens : (ts us own hs zs : List Token) (before : List Token) → ts ≡ before ++ own → before ≡ us ++ (hs ++ Fixed mark.OpenBrace ∷ []) → ts ++ zs ≡ us ++ (hs ++ (Fixed mark.OpenBrace ∷ own ++ zs))
choice_tokens ts us own hs zs before h i = rw (h, i) (simp append_assoc)

-- the innermost body closes
closes_said : (is : List Item) (ss : List Stmt) (o : Outer) (ts : List Token) → Within is ss o ts → Said (closes is ss o) (ts ++ Fixed mark.CloseBrace ∷ [])
closes_said is ss (in_function r x xs) ts w =
    subst (λ (ys : List Token). IsText ys (is ++ function (record { name = x; role = r; params = xs; body = body_of_list ss }) ∷ []))
    (sym (function_tokens ts w.outside.0 w.own w.outside.1 (Fixed mark.CloseBrace ∷ []) w.before w.cut w.outside.4))
    (text_more w.outside.2 (w.outside.3 (Fixed mark.OpenBrace ∷ w.own ++ Fixed mark.CloseBrace ∷ []) (body_of_list ss) (braced w.stmts)))
closes_said is ss (in_choice e before o) ts w = (
  w.outside.0 ++ w.outside.1,
  Fixed mark.If ∷ w.outside.2 ++ (Fixed mark.OpenBrace ∷ w.own ++ Fixed mark.CloseBrace ∷ []),
  within_again w.outside.0 w.outside.1 w.outside.3 w.outside.4,
  (w.outside.2, Fixed mark.OpenBrace ∷ w.own ++ Fixed mark.CloseBrace ∷ [], w.outside.5, braced w.stmts, refl),
  choice_tokens ts (w.outside.0 ++ w.outside.1) w.own (Fixed mark.If ∷ w.outside.2) (Fixed mark.CloseBrace ∷ []) w.before w.cut w.outside.6,
)
closes_said is ss (in_else e a before o) ts w =
    subst (λ (ys : List Token). Said (inside is (before ++ choose e a (body_of_list ss) ∷ []) o at_stmt) ys)
    (sym (choice_tokens ts (w.outside.0 ++ w.outside.1) w.own (Fixed mark.If ∷ w.outside.2 ++ w.outside.3 ++ Fixed mark.Else ∷ []) (Fixed mark.CloseBrace ∷ []) w.before w.cut
    (w.outside.8 ∙ ap (λ (ys : List Token). (w.outside.0 ++ w.outside.1) ++ ys) (sym (append_assoc (Fixed mark.If ∷ w.outside.2 ++ w.outside.3) (Fixed mark.Else ∷ []) (Fixed mark.OpenBrace ∷ []))))))
    (at_statement (stmt_done (within_again w.outside.0 w.outside.1 w.outside.4 w.outside.5)
    (subst (λ (ys : List Token). IsStmt ys (choose e a (body_of_list ss))) (sym (append_assoc (Fixed mark.If ∷ w.outside.2 ++ w.outside.3) (Fixed mark.Else ∷ []) (Fixed mark.OpenBrace ∷ w.own ++ Fixed mark.CloseBrace ∷ [])))
    (chooses_else w.outside.6 w.outside.7 (braced w.stmts)))))
closes_said is ss (in_loop e before o) ts w =
    subst (λ (ys : List Token). Said (inside is (before ++ repeat e (body_of_list ss) ∷ []) o at_stmt) ys)
    (sym (choice_tokens ts (w.outside.0 ++ w.outside.1) w.own (Fixed mark.While ∷ w.outside.2) (Fixed mark.CloseBrace ∷ []) w.before w.cut w.outside.6))
    (at_statement (stmt_done (within_again w.outside.0 w.outside.1 w.outside.3 w.outside.4) (repeats w.outside.5 (braced w.stmts))))

-- ---- the start of a statement

pub stmt_said : (is : List Item) (ss : List Stmt) (o : Outer) (t : Token) (q : Place) (us : List Token) → Within is ss o us → stmt_next is ss o t ≡ Some q → Said q (us ++ t ∷ [])
stmt_said is ss o (Fixed mark.CloseBrace) q us w h = giving (λ p. Said p (us ++ Fixed mark.CloseBrace ∷ [])) h (closes_said is ss o us w)
stmt_said is ss o (Named x) q us w h = giving (λ p. Said p (us ++ Named x ∷ [])) h (us, Named x ∷ [], w, refl, refl)
stmt_said is ss o (Fixed mark.Var) q us w h = giving (λ p. Said p (us ++ Fixed mark.Var ∷ [])) h (us, Fixed mark.Var ∷ [], w, refl, refl)
stmt_said is ss o (Fixed mark.If) q us w h = giving (λ p. Said p (us ++ Fixed mark.If ∷ [])) h (us, Fixed mark.If ∷ [], w, refl, refl)
stmt_said is ss o (Fixed mark.While) q us w h = giving (λ p. Said p (us ++ Fixed mark.While ∷ [])) h (us, Fixed mark.While ∷ [], w, refl, refl)
stmt_said is ss o (Fixed mark.Out) q us w h = giving (λ p. Said p (us ++ Fixed mark.Out ∷ [])) h (us, Fixed mark.Out ∷ [], w, refl, refl)
stmt_said is ss o (Fixed mark.Return) q us w h = giving (λ p. Said p (us ++ Fixed mark.Return ∷ [])) h (us, Fixed mark.Return ∷ [], w, refl, refl)
stmt_said is ss o (Fixed mark.Halt) q us w h = giving (λ p. Said p (us ++ Fixed mark.Halt ∷ [])) h (us, Fixed mark.Halt ∷ [], w, halts, refl)
stmt_said is ss o _ q us w h = absurd (none_some h)

choice_over : (is : List Item) (ss : List Stmt) (o : Outer) (e : Expr) (a : Body) (t : Token) (q : Place) (us vs : List Token) → Within is ss o us → Local (at_choice e a) vs
    → stmt_next is (ss ++ choose e a no_stmts ∷ []) o t ≡ Some q → Said q (us ++ (vs ++ t ∷ []))
choice_over is ss o e a t q us vs w l h =
    subst (λ (xs : List Token). Said q xs) (append_assoc us vs (t ∷ []))
    (stmt_said is (ss ++ choose e a no_stmts ∷ []) o t q (us ++ vs) (stmt_done w (subst (λ (xs : List Token). IsStmt xs (choose e a no_stmts)) (sym l.4) (chooses l.2 l.3))) h)

pub choice_said : (is : List Item) (ss : List Stmt) (o : Outer) (e : Expr) (a : Body) (t : Token) (q : Place) (us vs : List Token) → Within is ss o us → Local (at_choice e a) vs → choice_next is ss o e a t ≡ Some q → Said q (us ++ (vs ++ t ∷ []))
choice_said is ss o e a (Fixed mark.Else) q us vs w l h = giving (λ p. Said p (us ++ (vs ++ Fixed mark.Else ∷ []))) h
    (us, vs ++ Fixed mark.Else ∷ [], w, (l.0, l.1, l.2, l.3, ap (λ (xs : List Token). xs ++ Fixed mark.Else ∷ []) l.4), refl)
choice_said is ss o e a t q us vs w l h = choice_over is ss o e a t q us vs w l h

pub target_said : (is : List Item) (ss : List Stmt) (o : Outer) (x : Word) (t : Token) (q : Place) (us vs : List Token) → Within is ss o us → Local (at_target x) vs → option_map (inside is ss o) (target_next x t) ≡ Some q → Said q (us ++ (vs ++ t ∷ []))
target_said is ss o x (Fixed mark.Assign) q us vs w l h = giving (λ p. Said p (us ++ (vs ++ Fixed mark.Assign ∷ []))) h
    (us, vs ++ Fixed mark.Assign ∷ [], w, ap (λ (xs : List Token). xs ++ Fixed mark.Assign ∷ []) l, refl)
target_said is ss o x (Fixed mark.OpenSquare) q us vs w l h = giving (λ p. Said p (us ++ (vs ++ Fixed mark.OpenSquare ∷ []))) h
    (us, vs ++ Fixed mark.OpenSquare ∷ [], w, ap (λ (xs : List Token). xs ++ Fixed mark.OpenSquare ∷ []) l, refl)
target_said is ss o x (Fixed mark.OpenRound) q us vs w l h = giving (λ p. Said p (us ++ (vs ++ Fixed mark.OpenRound ∷ []))) h
    (us, vs ++ Fixed mark.OpenRound ∷ [], w, ([], no_arguments_before, ap (λ (xs : List Token). xs ++ Fixed mark.OpenRound ∷ []) l), refl)
target_said is ss o x _ q us vs w l h = absurd (none_some h)

-- ---- behind an expression: `ws` opened the statement, `xs` are the expression

joins_up : {vs ws : List Token} (xs bs zs : List Token) → vs ≡ ws ++ xs → ws ≡ bs → vs ++ zs ≡ (bs ++ xs) ++ zs
joins_up xs bs zs h i = ap (λ (ys : List Token). ys ++ zs) (h ∙ ap (λ (ys : List Token). ys ++ xs) i)

stores_tokens : {vs ws : List Token} (xs bs zs : List Token) → vs ≡ ws ++ xs → ws ≡ bs ++ Fixed mark.CloseSquare ∷ Fixed mark.Assign ∷ [] → vs ++ zs ≡ (bs ++ Fixed mark.CloseSquare ∷ Fixed mark.Assign ∷ xs) ++ zs
stores_tokens xs bs zs h i = ap (λ (ys : List Token). ys ++ zs) (h ∙ ap (λ (ys : List Token). ys ++ xs) i ∙ append_assoc bs (Fixed mark.CloseSquare ∷ Fixed mark.Assign ∷ []) xs)

opening_tokens : {us vs ws : List Token} (xs before own : List Token) (w : Token) → us ≡ before ++ own → vs ≡ ws ++ xs → ws ≡ w ∷ [] → us ++ (vs ++ Fixed mark.OpenBrace ∷ []) ≡ (before ++ own) ++ (w ∷ xs ++ Fixed mark.OpenBrace ∷ [])
opening_tokens xs before own w h i j = rw (h, i, j) refl

comma_tokens : {vs ws : List Token} (xs bs us zs : List Token) → vs ≡ ws ++ xs → ws ≡ bs ++ us → vs ++ zs ≡ bs ++ (us ++ (xs ++ zs))
comma_tokens xs bs us zs h i = rw (h, i) (simp append_assoc)

call_tokens : {vs ws : List Token} (xs bs us : List Token) (y : Token) (zs : List Token) → vs ≡ ws ++ xs → ws ≡ bs ++ us → (vs ++ y ∷ []) ++ zs ≡ bs ++ ((us ++ xs) ++ y ∷ zs)
call_tokens xs bs us y zs h i = rw (h, i) (simp append_assoc)

pub use_said : (is : List Item) (ss : List Stmt) (o : Outer) (e : Expr) (u : Use) (t : Token) (q : Place) (us vs ws xs : List Token)
    → Within is ss o us → Begun u ws → IsExpr xs e → vs ≡ ws ++ xs → use_next is ss o e u t ≡ Some q → Said q (us ++ (vs ++ t ∷ []))
use_said is ss o e (to_declare x) t q us vs ws xs w b d cut h =
    wanting mark.Semicolon t _ q (λ y p. Said p (us ++ (vs ++ y ∷ []))) h (done w (joins_up xs (Fixed mark.Var ∷ Named x ∷ Fixed mark.Assign ∷ []) (Fixed mark.Semicolon ∷ []) cut b) (declares x d))
use_said is ss o e (to_assign x) t q us vs ws xs w b d cut h =
    wanting mark.Semicolon t _ q (λ y p. Said p (us ++ (vs ++ y ∷ []))) h (done w (joins_up xs (Named x ∷ Fixed mark.Assign ∷ []) (Fixed mark.Semicolon ∷ []) cut b) (assigns x d))
use_said is ss o e (to_index x) t q us vs ws xs w b d cut h =
    wanting mark.CloseSquare t _ q (λ y p. Said p (us ++ (vs ++ y ∷ []))) h
    (us, vs ++ Fixed mark.CloseSquare ∷ [], w, (xs, d, joins_up xs (Named x ∷ Fixed mark.OpenSquare ∷ []) (Fixed mark.CloseSquare ∷ []) cut b), refl)
use_said is ss o e (to_store x i) t q us vs ws xs w b d cut h =
    wanting mark.Semicolon t _ q (λ y p. Said p (us ++ (vs ++ y ∷ []))) h (done w (stores_tokens xs (Named x ∷ Fixed mark.OpenSquare ∷ b.0) (Fixed mark.Semicolon ∷ []) cut b.2) (stores x b.1 d))
use_said is ss o e to_choose t q us vs ws xs w b d cut h =
    wanting mark.OpenBrace t _ q (λ y p. Said p (us ++ (vs ++ y ∷ []))) h
    (body_opens (w.before, w.own, xs, w.outside, w.stmts, d, opening_tokens xs w.before w.own (Fixed mark.If) w.cut cut b))
use_said is ss o e to_repeat t q us vs ws xs w b d cut h =
    wanting mark.OpenBrace t _ q (λ y p. Said p (us ++ (vs ++ y ∷ []))) h
    (body_opens (w.before, w.own, xs, w.outside, w.stmts, d, opening_tokens xs w.before w.own (Fixed mark.While) w.cut cut b))
use_said is ss o e to_put t q us vs ws xs w b d cut h =
    wanting mark.Semicolon t _ q (λ y p. Said p (us ++ (vs ++ y ∷ []))) h (done w (joins_up xs (Fixed mark.Out ∷ []) (Fixed mark.Semicolon ∷ []) cut b) (puts d))
use_said is ss o e to_return t q us vs ws xs w b d cut h =
    wanting mark.Semicolon t _ q (λ y p. Said p (us ++ (vs ++ y ∷ []))) h (done w (joins_up xs (Fixed mark.Return ∷ []) (Fixed mark.Semicolon ∷ []) cut b) (returns d))
use_said is ss o e (to_call f es) t q us vs ws xs w b d cut h =
    arguing es (λ fs. inside is ss o (at_operand (to_call f fs) bottom)) (λ fs. inside is ss o (at_end (call_only f (exprs_of_list fs)))) e t q (λ y p. Said p (us ++ (vs ++ y ∷ []))) h
    (λ few. (us, vs ++ Fixed mark.Comma ∷ [], w, (b.0 ++ (xs ++ Fixed mark.Comma ∷ []), argument_more es b.0 e xs b.1 d few, comma_tokens xs (Named f ∷ Fixed mark.OpenRound ∷ []) b.0 (Fixed mark.Comma ∷ []) cut b.2), refl)) (
      us,
      vs ++ Fixed mark.CloseRound ∷ [],
      w,
      subst (λ (ys : List Token). IsStmt ys (call_only f (exprs_of_list (es ++ e ∷ [])))) (sym (call_tokens xs (Named f ∷ Fixed mark.OpenRound ∷ []) b.0 (Fixed mark.CloseRound) (Fixed mark.Semicolon ∷ []) cut b.2)) (calls f (arguments_whole es b.0 e xs b.1 d)),
      refl,
    )

-- ---- in an expression: `ws` are before the operand, `xs` are its own

closed_tokens : {vs ws : List Token} (xs us bs zs : List Token) → vs ≡ ws ++ xs → ws ≡ us ++ bs → vs ++ zs ≡ us ++ (bs ++ (xs ++ zs))
closed_tokens xs us bs zs h i = rw (h, i) (simp append_assoc)

called_tokens : {vs ws : List Token} (xs us bs cs zs : List Token) → vs ≡ ws ++ xs → ws ≡ us ++ (bs ++ cs) → vs ++ zs ≡ us ++ (bs ++ ((cs ++ xs) ++ zs))
called_tokens xs us bs cs zs h i = rw (h, i) (simp append_assoc)

argued_tokens : {vs ws : List Token} (xs us bs cs zs : List Token) → vs ≡ ws ++ xs → ws ≡ us ++ (bs ++ cs) → vs ++ zs ≡ us ++ (bs ++ (cs ++ (xs ++ zs)))
argued_tokens xs us bs cs zs h i = rw (h, i) (simp append_assoc)

closed_said : (is : List Item) (ss : List Stmt) (o : Outer) (u : Use) (p : Pending) (e : Expr) (t : Token) (q : Place) (us vs ws xs : List Token)
    → Within is ss o us → Opened u p ws → IsExpr xs e → vs ≡ ws ++ xs → closed_next is ss o u p e t ≡ Some q → Said q (us ++ (vs ++ t ∷ []))
closed_said is ss o u bottom e t q us vs ws xs w b d cut h = use_said is ss o e u t q us vs ws xs w b d cut h
closed_said is ss o u (minus_before p) e t q us vs ws xs w b d cut h = absurd (none_some h)
closed_said is ss o u (left_of op a p) e t q us vs ws xs w b d cut h = absurd (none_some h)
closed_said is ss o u (in_brackets p) e t q us vs ws xs w b d cut h =
    wanting mark.CloseRound t _ q (λ y k. Said k (us ++ (vs ++ y ∷ []))) h (
      us,
      vs ++ Fixed mark.CloseRound ∷ [],
      w,
      (b.0, Fixed mark.OpenRound ∷ xs ++ Fixed mark.CloseRound ∷ [], b.1, bracketed d, closed_tokens xs b.0 (Fixed mark.OpenRound ∷ []) (Fixed mark.CloseRound ∷ []) cut b.2),
      refl,
    )
closed_said is ss o u (index_of x p) e t q us vs ws xs w b d cut h =
    wanting mark.CloseSquare t _ q (λ y k. Said k (us ++ (vs ++ y ∷ []))) h (
      us,
      vs ++ Fixed mark.CloseSquare ∷ [],
      w,
      (b.0, Named x ∷ Fixed mark.OpenSquare ∷ xs ++ Fixed mark.CloseSquare ∷ [], b.1, indexed x d, closed_tokens xs b.0 (Named x ∷ Fixed mark.OpenSquare ∷ []) (Fixed mark.CloseSquare ∷ []) cut b.2),
      refl,
    )
closed_said is ss o u (argument_of f es p) e t q us vs ws xs w b d cut h =
    arguing es (λ fs. inside is ss o (at_operand u (argument_of f fs p))) (λ fs. inside is ss o (at_operator (call f (exprs_of_list fs)) u p)) e t q (λ y k. Said k (us ++ (vs ++ y ∷ []))) h
    (λ few. (
      us,
      vs ++ Fixed mark.Comma ∷ [],
      w,
      (b.0, b.1 ++ (xs ++ Fixed mark.Comma ∷ []), b.2, argument_more es b.1 e xs b.3 d few, argued_tokens xs b.0 (Named f ∷ Fixed mark.OpenRound ∷ []) b.1 (Fixed mark.Comma ∷ []) cut b.4),
      refl,
    )) (
      us,
      vs ++ Fixed mark.CloseRound ∷ [],
      w,
      (b.0, Named f ∷ Fixed mark.OpenRound ∷ (b.1 ++ xs) ++ Fixed mark.CloseRound ∷ [], b.2, called f (arguments_whole es b.1 e xs b.3 d), called_tokens xs b.0 (Named f ∷ Fixed mark.OpenRound ∷ []) b.1 (Fixed mark.CloseRound ∷ []) cut b.4),
      refl,
    )

operator_tokens : {vs : List Token} (us xs : List Token) (t : Token) → vs ≡ us ++ xs → vs ++ t ∷ [] ≡ us ++ (xs ++ t ∷ [])
operator_tokens us xs t h = snoc us xs t h

settled_said : (is : List Item) (ss : List Stmt) (o : Outer) (u : Use) (x : Operand) (t : Token) (q : Place) (us vs : List Token)
    → Within is ss o us → Settled u (level_of t) x vs → settled_next is ss o u x t ≡ Some q → Said q (us ++ (vs ++ t ∷ []))
settled_said is ss o u x (Sign op) q us vs w s h =
    giving (λ k. Said k (us ++ (vs ++ Sign op ∷ []))) h
    (us, vs ++ Sign op ∷ [], w, (s.before, s.own, s.opened, s.tight, s.needs, snoc s.before s.own (Sign op) s.cut), refl)
settled_said is ss o u x (Named y) q us vs w s h = closed_said is ss o u x.pending x.value (Named y) q us vs s.before s.own w s.opened s.tight s.cut h
settled_said is ss o u x (Number n) q us vs w s h = closed_said is ss o u x.pending x.value (Number n) q us vs s.before s.own w s.opened s.tight s.cut h
settled_said is ss o u x (Fixed m) q us vs w s h = closed_said is ss o u x.pending x.value (Fixed m) q us vs s.before s.own w s.opened s.tight s.cut h

level_of_low : (t : Token) → level_of t ≤ 6
level_of_low (Sign op) = level_low op
level_of_low (Named x) = omega arith
level_of_low (Number n) = omega arith
level_of_low (Fixed m) = omega arith

operator_said : (is : List Item) (ss : List Stmt) (o : Outer) (e : Expr) (u : Use) (p : Pending) (t : Token) (q : Place) (us vs ws xs : List Token)
    → Within is ss o us → Opened u p ws → IsUnary xs e → vs ≡ ws ++ xs → operator_next is ss o e u p t ≡ Some q → Said q (us ++ (vs ++ t ∷ []))
operator_said is ss o e u p t q us vs ws xs w b d cut h =
    settled_said is ss o u (settled (level_of t) p e) t q us vs w (settles u (level_of t) p e ws xs vs b (alone d) (alone d) (level_of_low t) cut) h

name_said : (is : List Item) (ss : List Stmt) (o : Outer) (x : Word) (u : Use) (p : Pending) (t : Token) (q : Place) (us vs ws : List Token)
    → Within is ss o us → Opened u p ws → vs ≡ ws ++ Named x ∷ [] → name_next is ss o x u p t ≡ Some q → Said q (us ++ (vs ++ t ∷ []))
name_said is ss o x u p (Fixed mark.OpenSquare) q us vs ws w b cut h =
    giving (λ k. Said k (us ++ (vs ++ Fixed mark.OpenSquare ∷ []))) h
    (us, vs ++ Fixed mark.OpenSquare ∷ [], w, (ws, b, snoc ws (Named x ∷ []) (Fixed mark.OpenSquare) cut), refl)
name_said is ss o x u p (Fixed mark.OpenRound) q us vs ws w b cut h =
    giving (λ k. Said k (us ++ (vs ++ Fixed mark.OpenRound ∷ []))) h
    (us, vs ++ Fixed mark.OpenRound ∷ [], w, (ws, [], b, no_arguments_before, snoc ws (Named x ∷ []) (Fixed mark.OpenRound) cut), refl)
name_said is ss o x u p t q us vs ws w b cut h = operator_said is ss o (name x) u p t q us vs ws (Named x ∷ []) w b (named x) cut h

ended_tokens : {vs : List Token} (us bs cs zs : List Token) → vs ≡ us ++ (bs ++ cs) → cs ≡ [] → vs ++ zs ≡ us ++ (bs ++ zs)
ended_tokens us bs cs zs h i = rw (h, i) (simp (append_assoc, append-nil))

no_tokens : {vs : List Token} (bs cs ys zs : List Token) → vs ≡ bs ++ cs → cs ≡ [] → (vs ++ ys) ++ zs ≡ bs ++ (ys ++ zs)
no_tokens bs cs ys zs h i = rw (h, i) (simp (append_assoc, append-nil))

no_arguments_said : (u : Use) (p : Pending) (i : Inside) (vs : List Token) → Opened u p vs → no_arguments u p ≡ Some i → Local i (vs ++ Fixed mark.CloseRound ∷ [])
no_arguments_said u (argument_of f [] p) i vs b h =
    giving (λ k. Local k (vs ++ Fixed mark.CloseRound ∷ [])) h
    (b.0, Named f ∷ Fixed mark.OpenRound ∷ Fixed mark.CloseRound ∷ [], b.2, called f none, ended_tokens b.0 (Named f ∷ Fixed mark.OpenRound ∷ []) b.1 (Fixed mark.CloseRound ∷ []) b.4 (b.3.empty refl))
no_arguments_said (to_call f []) bottom i vs b h =
    giving (λ k. Local k (vs ++ Fixed mark.CloseRound ∷ [])) h
    (subst (λ (ys : List Token). IsStmt ys (call_only f no_exprs)) (sym (no_tokens (Named f ∷ Fixed mark.OpenRound ∷ []) b.0 (Fixed mark.CloseRound ∷ []) (Fixed mark.Semicolon ∷ []) b.2 (b.1.empty refl))) (calls f none))
no_arguments_said _ _ i vs b h = absurd (none_some h)

operand_said : (is : List Item) (ss : List Stmt) (o : Outer) (u : Use) (p : Pending) (t : Token) (i : Inside) (vs : List Token) → Opened u p vs → operand_next u p t ≡ Some i → Local i (vs ++ t ∷ [])
operand_said is ss o u p (Number n) i vs b h = giving (λ k. Local k (vs ++ Number n ∷ [])) h (vs, Number n ∷ [], b, numbered n, refl)
operand_said is ss o u p (Named x) i vs b h = giving (λ k. Local k (vs ++ Named x ∷ [])) h (vs, b, refl)
operand_said is ss o u p (Fixed mark.In) i vs b h = giving (λ k. Local k (vs ++ Fixed mark.In ∷ [])) h (vs, Fixed mark.In ∷ [], b, taken, refl)
operand_said is ss o u p (Sign Minus) i vs b h = giving (λ k. Local k (vs ++ Sign Minus ∷ [])) h (vs, b, refl)
operand_said is ss o u p (Fixed mark.OpenRound) i vs b h = giving (λ k. Local k (vs ++ Fixed mark.OpenRound ∷ [])) h (vs, b, refl)
operand_said is ss o u p (Fixed mark.CloseRound) i vs b h = no_arguments_said u p i vs b h
operand_said is ss o u p _ i vs b h = absurd (none_some h)

else_tokens : {us vs : List Token} (before own xs : List Token) → us ≡ before ++ own → vs ≡ xs ++ Fixed mark.Else ∷ [] → us ++ (vs ++ Fixed mark.OpenBrace ∷ []) ≡ (before ++ own) ++ (xs ++ Fixed mark.Else ∷ Fixed mark.OpenBrace ∷ [])
else_tokens before own xs h i = rw (h, i) (simp append_assoc)

pub inside_said : (is : List Item) (ss : List Stmt) (o : Outer) (i : Inside) (t : Token) (q : Place) (us vs : List Token) → Within is ss o us → Local i vs → inside_next is ss o i t ≡ Some q → Said q (us ++ (vs ++ t ∷ []))
inside_said is ss o at_stmt t q us vs w l h = subst (λ (xs : List Token). Said q (us ++ xs)) (sym (ap (λ (xs : List Token). xs ++ t ∷ []) l)) (stmt_said is ss o t q us w h)
inside_said is ss o at_var t q us vs w l h =
    naming t (λ x. inside is ss o (at_declare x)) q (λ y k. Said k (us ++ (vs ++ y ∷ []))) h (λ x. (us, vs ++ Named x ∷ [], w, ap (λ (xs : List Token). xs ++ Named x ∷ []) l, refl))
inside_said is ss o (at_declare x) t q us vs w l h =
    wanting mark.Assign t _ q (λ y k. Said k (us ++ (vs ++ y ∷ []))) h (us, vs ++ Fixed mark.Assign ∷ [], w, ap (λ (xs : List Token). xs ++ Fixed mark.Assign ∷ []) l, refl)
inside_said is ss o (at_target x) t q us vs w l h = target_said is ss o x t q us vs w l h
inside_said is ss o (at_stored x e) t q us vs w l h =
    wanting mark.Assign t _ q (λ y k. Said k (us ++ (vs ++ y ∷ []))) h
    (us, vs ++ Fixed mark.Assign ∷ [], w, (l.0, l.1, snoc (Named x ∷ Fixed mark.OpenSquare ∷ l.0) (Fixed mark.CloseSquare ∷ []) (Fixed mark.Assign) l.2), refl)
inside_said is ss o (at_end s) t q us vs w l h =
    wanting mark.Semicolon t _ q (λ y k. Said k (us ++ (vs ++ y ∷ []))) h (done w refl l)
inside_said is ss o (at_choice e a) t q us vs w l h = choice_said is ss o e a t q us vs w l h
inside_said is ss o (at_else e a) t q us vs w l h =
    wanting mark.OpenBrace t _ q (λ y k. Said k (us ++ (vs ++ y ∷ []))) h
    (body_opens (w.before, w.own, l.0, l.1, w.outside, w.stmts, l.2, l.3, else_tokens w.before w.own (Fixed mark.If ∷ l.0 ++ l.1) w.cut l.4))
inside_said is ss o (at_operand u p) t q us vs w l h =
    let c = map_some (operand_next u p t) (inside is ss o) q h in
    subst (λ k. Said k (us ++ (vs ++ t ∷ []))) c.2 (us, vs ++ t ∷ [], w, operand_said is ss o u p t c.0 vs l c.1, refl)
inside_said is ss o (at_name x u p) t q us vs w l h = name_said is ss o x u p t q us vs l.0 w l.1 l.2 h
inside_said is ss o (at_operator e u p) t q us vs w l h = operator_said is ss o e u p t q us vs l.0 l.1 w l.2 l.3 l.4 h
