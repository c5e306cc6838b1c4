-- From each place of the machine some tokens lead to the end of a text.
use Rattle.std.proofs.Common.{◌≡◌, true, List, [], ◌∷◌, ◌++◌, Option, Some, refl, ◌∙◌, ap}
use Rattle.oat_tree.specs.Levels.{level}
use Rattle.std.specs.Prelude.{codes}
use Rattle.std.specs.Option.{option_and_then}
use Rattle.std.proofs.Math.Dec.{leb-zero}
use Rattle.oat_grammar.specs.declared.token.Mark.{Mark}
use Rattle.oat_grammar.specs.declared.token.Mark.TheVariants as mark
use Rattle.oat_grammar.specs.declared.token.Token.{Token}
use Rattle.oat_grammar.specs.declared.token.Token.TheVariants.{Named, Number, Fixed}
use Rattle.oat_tree.specs.Syntax.{Expr, call, input, negative, element, binary, Stmt, declare, assign, assign_element, choose, repeat, put, return, call_only, no_stmts, Item, body_of_list, exprs_of_list}
use Rattle.oat_grammar.specs.Machine.{Pending, bottom, minus_before, left_of, in_brackets, index_of, argument_of, Use, to_declare, to_assign, to_index, to_store, to_choose, to_repeat, to_put, to_return, to_call, Outer, in_function, in_choice, in_else, in_loop, Inside, at_stmt, at_var, at_declare, at_target, at_stored, at_end, at_choice, at_else, at_operand, at_name, at_operator, Heading, at_global, at_array, at_critical, at_equals, at_square, at_either, at_start, at_minus, at_length, at_closing, at_last, at_id, at_function, at_open, at_first, at_comma, at_param, at_body, Place, between, heading, inside, Operand, settled, closed_next, goes}
use Rattle.oat_grammar.specs.Words.{are_words}

-- these tokens lead to the end of a text
pub record Ends (p : Place) (ts : List Token) (is : List Item) : Type 0 where
  pub goes_there : goes ts p ≡ Some (between is)
  pub words : are_words ts ≡ true

pub record CanEnd (p : Place) : Type 0 where
  pub tokens : List Token
  pub items : List Item
  pub ends : Ends p tokens items

-- tokens first, from one place to another
leads : {p q : Place} (ts : List Token) → ((us : List Token) → goes (ts ++ us) p ≡ goes us q) → ((us : List Token) → are_words (ts ++ us) ≡ are_words us) → CanEnd q → CanEnd p
leads {p} {q} ts moves words c = record {
  tokens = ts ++ c.tokens;
  items = c.items;
  ends = record { goes_there = moves c.tokens ∙ c.ends.goes_there; words = words c.tokens ∙ c.ends.words };
}

pub stmt_ends : (is : List Item) (o : Outer) (ss : List Stmt) → CanEnd (inside is ss o at_stmt)
stmt_ends is (in_function r x xs) ss = record { tokens = Fixed mark.CloseBrace ∷ []; items = _; ends = record { goes_there = refl; words = refl } }
stmt_ends is (in_choice e before o) ss = leads (Fixed mark.CloseBrace ∷ Fixed mark.Else ∷ Fixed mark.OpenBrace ∷ Fixed mark.CloseBrace ∷ []) (λ us. refl) (λ us. refl) (stmt_ends is o (before ++ choose e (body_of_list ss) no_stmts ∷ []))
stmt_ends is (in_else e a before o) ss = leads (Fixed mark.CloseBrace ∷ []) (λ us. refl) (λ us. refl) (stmt_ends is o (before ++ choose e a (body_of_list ss) ∷ []))
stmt_ends is (in_loop e before o) ss = leads (Fixed mark.CloseBrace ∷ []) (λ us. refl) (λ us. refl) (stmt_ends is o (before ++ repeat e (body_of_list ss) ∷ []))

-- behind an operand with nothing before it that binds it
pub record CanClose (is : List Item) (ss : List Stmt) (o : Outer) (u : Use) (x : Operand) : Type 0 where
  pub closing : Mark
  pub place : Place
  pub closes_to : closed_next is ss o u x.pending x.value (Fixed closing) ≡ Some place
  pub then_ends : CanEnd place

use_closes : (is : List Item) (ss : List Stmt) (o : Outer) (u : Use) (e : Expr) → CanClose is ss o u (record { value = e; pending = bottom })
use_closes is ss o (to_declare x) e = record { closing = mark.Semicolon; place = _; closes_to = refl; then_ends = stmt_ends is o (ss ++ declare x e ∷ []) }
use_closes is ss o (to_assign x) e = record { closing = mark.Semicolon; place = _; closes_to = refl; then_ends = stmt_ends is o (ss ++ assign x e ∷ []) }
use_closes is ss o (to_index x) e = record {
  closing = mark.CloseSquare;
  place = _;
  closes_to = refl;
  then_ends = leads (Fixed mark.Assign ∷ Fixed mark.In ∷ Fixed mark.Semicolon ∷ []) (λ us. refl) (λ us. refl) (stmt_ends is o (ss ++ assign_element x e input ∷ []));
}
use_closes is ss o (to_store x i) e = record { closing = mark.Semicolon; place = _; closes_to = refl; then_ends = stmt_ends is o (ss ++ assign_element x i e ∷ []) }
use_closes is ss o to_choose e = record { closing = mark.OpenBrace; place = _; closes_to = refl; then_ends = stmt_ends is (in_choice e ss o) [] }
use_closes is ss o to_repeat e = record { closing = mark.OpenBrace; place = _; closes_to = refl; then_ends = stmt_ends is (in_loop e ss o) [] }
use_closes is ss o to_put e = record { closing = mark.Semicolon; place = _; closes_to = refl; then_ends = stmt_ends is o (ss ++ put e ∷ []) }
use_closes is ss o to_return e = record { closing = mark.Semicolon; place = _; closes_to = refl; then_ends = stmt_ends is o (ss ++ return e ∷ []) }
use_closes is ss o (to_call f es) e = record {
  closing = mark.CloseRound;
  place = _;
  closes_to = refl;
  then_ends = leads (Fixed mark.Semicolon ∷ []) (λ us. refl) (λ us. refl) (stmt_ends is o (ss ++ call_only f (exprs_of_list (es ++ e ∷ [])) ∷ []));
}

behind_closed : {is : List Item} {ss : List Stmt} {o : Outer} {u : Use} (p : Pending) (e : Expr) → CanClose is ss o u (settled 0 p e) → CanEnd (inside is ss o (at_operator e u p))
behind_closed {is} {ss} {o} {u} p e c = record {
  tokens = Fixed c.closing ∷ c.then_ends.tokens;
  items = c.then_ends.items;
  ends = record {
    goes_there = ap (λ (q : Option Place). option_and_then (goes c.then_ends.tokens) q) c.closes_to ∙ c.then_ends.ends.goes_there;
    words = c.then_ends.ends.words;
  };
}

operand_closes : (is : List Item) (ss : List Stmt) (o : Outer) (u : Use) (p : Pending) (e : Expr) → CanClose is ss o u (settled 0 p e)
operand_closes is ss o u bottom e = use_closes is ss o u e
operand_closes is ss o u (minus_before p) e = operand_closes is ss o u p (negative e)
operand_closes is ss o u (left_of op a p) e = rw (leb-zero (level op)) (operand_closes is ss o u p (binary op a e))
operand_closes is ss o u (in_brackets p) e = record { closing = mark.CloseRound; place = _; closes_to = refl; then_ends = behind_closed p e (operand_closes is ss o u p e) }
operand_closes is ss o u (index_of x p) e = record { closing = mark.CloseSquare; place = _; closes_to = refl; then_ends = behind_closed p (element x e) (operand_closes is ss o u p (element x e)) }
operand_closes is ss o u (argument_of f es p) e = record {
  closing = mark.CloseRound;
  place = _;
  closes_to = refl;
  then_ends = behind_closed p (call f (exprs_of_list (es ++ e ∷ []))) (operand_closes is ss o u p (call f (exprs_of_list (es ++ e ∷ []))));
}

operator_ends : (is : List Item) (ss : List Stmt) (o : Outer) (u : Use) (p : Pending) (e : Expr) → CanEnd (inside is ss o (at_operator e u p))
operator_ends is ss o u p e = behind_closed p e (operand_closes is ss o u p e)

operand_ends : (is : List Item) (ss : List Stmt) (o : Outer) (u : Use) (p : Pending) → CanEnd (inside is ss o (at_operand u p))
operand_ends is ss o u p = leads (Fixed mark.In ∷ []) (λ us. refl) (λ us. refl) (operator_ends is ss o u p input)

inside_ends : (is : List Item) (ss : List Stmt) (o : Outer) (i : Inside) → CanEnd (inside is ss o i)
inside_ends is ss o at_stmt = stmt_ends is o ss
inside_ends is ss o at_var = leads (Named (codes "x") ∷ Fixed mark.Assign ∷ []) (λ us. refl) (λ us. refl) (operand_ends is ss o (to_declare (codes "x")) bottom)
inside_ends is ss o (at_declare x) = leads (Fixed mark.Assign ∷ []) (λ us. refl) (λ us. refl) (operand_ends is ss o (to_declare x) bottom)
inside_ends is ss o (at_target x) = leads (Fixed mark.Assign ∷ []) (λ us. refl) (λ us. refl) (operand_ends is ss o (to_assign x) bottom)
inside_ends is ss o (at_stored x e) = leads (Fixed mark.Assign ∷ []) (λ us. refl) (λ us. refl) (operand_ends is ss o (to_store x e) bottom)
inside_ends is ss o (at_end s) = leads (Fixed mark.Semicolon ∷ []) (λ us. refl) (λ us. refl) (stmt_ends is o (ss ++ s ∷ []))
inside_ends is ss o (at_choice e a) = leads (Fixed mark.Else ∷ Fixed mark.OpenBrace ∷ Fixed mark.CloseBrace ∷ []) (λ us. refl) (λ us. refl) (stmt_ends is o (ss ++ choose e a no_stmts ∷ []))
inside_ends is ss o (at_else e a) = leads (Fixed mark.OpenBrace ∷ Fixed mark.CloseBrace ∷ []) (λ us. refl) (λ us. refl) (stmt_ends is o (ss ++ choose e a no_stmts ∷ []))
inside_ends is ss o (at_operand u p) = operand_ends is ss o u p
inside_ends is ss o (at_name x u p) = leads (Fixed mark.OpenSquare ∷ Fixed mark.In ∷ Fixed mark.CloseSquare ∷ []) (λ us. refl) (λ us. refl) (operator_ends is ss o u p (element x input))
inside_ends is ss o (at_operator e u p) = operator_ends is ss o u p e

between_ends : (is : List Item) → CanEnd (between is)
between_ends is = record { tokens = []; items = is; ends = record { goes_there = refl; words = refl } }

heading_ends : (is : List Item) (h : Heading) → CanEnd (heading is h)
heading_ends is at_global = leads (Named (codes "x") ∷ Fixed mark.Assign ∷ Number 1 ∷ Fixed mark.Semicolon ∷ []) (λ us. refl) (λ us. refl) (between_ends _)
heading_ends is at_array = leads (Named (codes "x") ∷ Fixed mark.OpenSquare ∷ Number 1 ∷ Fixed mark.CloseSquare ∷ Fixed mark.Semicolon ∷ []) (λ us. refl) (λ us. refl) (between_ends _)
heading_ends is at_critical = leads (Named (codes "x") ∷ Fixed mark.Assign ∷ Number 1 ∷ Fixed mark.Semicolon ∷ []) (λ us. refl) (λ us. refl) (between_ends _)
heading_ends is (at_equals x) = leads (Fixed mark.Assign ∷ Number 1 ∷ Fixed mark.Semicolon ∷ []) (λ us. refl) (λ us. refl) (between_ends _)
heading_ends is (at_square x) = leads (Fixed mark.OpenSquare ∷ Number 1 ∷ Fixed mark.CloseSquare ∷ Fixed mark.Semicolon ∷ []) (λ us. refl) (λ us. refl) (between_ends _)
heading_ends is (at_either x) = leads (Fixed mark.Assign ∷ Number 1 ∷ Fixed mark.Semicolon ∷ []) (λ us. refl) (λ us. refl) (between_ends _)
heading_ends is (at_start c x) = leads (Number 1 ∷ Fixed mark.Semicolon ∷ []) (λ us. refl) (λ us. refl) (between_ends _)
heading_ends is (at_minus c x) = leads (Number 1 ∷ Fixed mark.Semicolon ∷ []) (λ us. refl) (λ us. refl) (between_ends _)
heading_ends is (at_length c x) = leads (Number 1 ∷ Fixed mark.CloseSquare ∷ Fixed mark.Semicolon ∷ []) (λ us. refl) (λ us. refl) (between_ends _)
heading_ends is (at_closing c x n) = leads (Fixed mark.CloseSquare ∷ Fixed mark.Semicolon ∷ []) (λ us. refl) (λ us. refl) (between_ends _)
heading_ends is (at_last i) = leads (Fixed mark.Semicolon ∷ []) (λ us. refl) (λ us. refl) (between_ends _)
heading_ends is at_id = leads (Number 1 ∷ Named (codes "x") ∷ Fixed mark.OpenRound ∷ Fixed mark.CloseRound ∷ Fixed mark.OpenBrace ∷ Fixed mark.CloseBrace ∷ []) (λ us. refl) (λ us. refl) (between_ends _)
heading_ends is (at_function r) = leads (Named (codes "x") ∷ Fixed mark.OpenRound ∷ Fixed mark.CloseRound ∷ Fixed mark.OpenBrace ∷ Fixed mark.CloseBrace ∷ []) (λ us. refl) (λ us. refl) (between_ends _)
heading_ends is (at_open r x) = leads (Fixed mark.OpenRound ∷ Fixed mark.CloseRound ∷ Fixed mark.OpenBrace ∷ Fixed mark.CloseBrace ∷ []) (λ us. refl) (λ us. refl) (between_ends _)
heading_ends is (at_first r x) = leads (Fixed mark.CloseRound ∷ Fixed mark.OpenBrace ∷ Fixed mark.CloseBrace ∷ []) (λ us. refl) (λ us. refl) (between_ends _)
heading_ends is (at_comma r x xs) = leads (Fixed mark.CloseRound ∷ Fixed mark.OpenBrace ∷ Fixed mark.CloseBrace ∷ []) (λ us. refl) (λ us. refl) (between_ends _)
heading_ends is (at_param r x xs) = leads (Named (codes "x") ∷ Fixed mark.CloseRound ∷ Fixed mark.OpenBrace ∷ Fixed mark.CloseBrace ∷ []) (λ us. refl) (λ us. refl) (between_ends _)
heading_ends is (at_body r x xs) = leads (Fixed mark.OpenBrace ∷ Fixed mark.CloseBrace ∷ []) (λ us. refl) (λ us. refl) (between_ends _)

-- from every place
pub can_end : (p : Place) → CanEnd p
can_end (between is) = between_ends is
can_end (heading is h) = heading_ends is h
can_end (inside is ss o i) = inside_ends is ss o i
