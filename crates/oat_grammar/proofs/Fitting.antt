-- Names of a tree that was read are free ones, and its numbers are in their ranges: so are those of each place, and each token keeps it.
use Rattle.std.proofs.Common.{◌≡◌, ℕ, zero, suc, ◌<◌, ◌≤◌, ◌^◌, Bool, true, false, List, [], ◌∷◌, ◌++◌, length, length-append, map, Option, Some, None, Ok, refl, sym, ap, subst, arith}
use Rattle.oat_tree.specs.Levels.{level}
use Rattle.std.specs.Prelude.{◌&&◌, ◌==◌, not, is_some, nat_le, nat_lt, if◌then◌else◌, codes, ℤ, pos, negsuc, ◌-ℤ◌}
use Rattle.std.specs.Option.{option_map, option_and_then}
use Rattle.std.proofs.lemmas.Bool.{and_parts}
use Rattle.std.proofs.lemmas.Bool.Decides.{nat_tests}
use Rattle.oat_ir.specs.declared.func.Role.{Role}
use Rattle.oat_ir.specs.declared.func.Role.TheVariants.{Plain, Operation, Main}
use Rattle.oat_ir.specs.declared.program.GlobalItem.{GlobalItem}
use Rattle.oat_lines.specs.Decimal.{numeral_of}
use Rattle.oat_grammar.specs.declared.token.Mark.{Mark}
use Rattle.oat_grammar.specs.declared.token.Mark.TheVariants as mark
use Rattle.oat_tree.specs.declared.operator.Operator.{Operator}
use Rattle.oat_tree.specs.declared.operator.Operator.TheVariants.{Minus}
use Rattle.oat_grammar.specs.declared.token.Token.{Token}
use Rattle.oat_grammar.specs.declared.token.Token.TheVariants.{Named, Number, Fixed, Sign}
use Rattle.oat_tree.specs.Syntax.{Word, Expr, name, element, call, negative, binary, Stmt, call_only, choose, no_stmts, no_exprs, Body, Item, halt, body_of_list, exprs_of_list}
use Rattle.oat_grammar.specs.Machine.{Pending, bottom, minus_before, left_of, in_brackets, index_of, argument_of, Use, to_declare, to_assign, to_index, to_store, to_choose, to_repeat, to_put, to_return, to_call, Outer, in_function, in_choice, in_else, in_loop, Inside, at_stmt, at_var, at_declare, at_target, at_stored, at_end, at_choice, at_else, at_operand, at_name, at_operator, Heading, at_global, at_array, at_critical, at_equals, at_square, at_either, at_start, at_minus, at_length, at_closing, at_last, at_id, at_function, at_open, at_first, at_comma, at_param, at_body, Place, between, heading, inside, scalar_item, array_item, either_next, start_next, first_next, comma_next, heading_next, item_begins, Operand, settled, no_arguments, operand_next, use_next, closed_next, level_of, settled_next, operator_next, name_next, closes, stmt_begins, stmt_next, choice_next, target_next, inside_next, next, goes}
use Rattle.oat_grammar.specs.Ranges.{Each, IsFreeName, ExprFits, ExprsFit, StmtFits, BodyFits, StartFits, GlobalFits, ParamsFit, HeadFits, ItemFits, TreeFits}
use Rattle.oat_grammar.specs.FirstFaults.{Range, range_of, is_within, first_reading}
use Rattle.oat_grammar.specs.Words.{Keyword, keyword_in, is_free_name}
use Rattle.oat_grammar.specs.Spots.{Spot, pair_token, sign_token, number_or_name, IsSpotted, ends, separates, breaks, comments, spells, pairs, signs, spots}
use Rattle.oat_grammar.specs.Texts.{At, NumbersFit, token_of, IsRead}
use Rattle.oat_grammar.proofs.Printed.{below_zero}
use Rattle.oat_grammar.proofs.Spotted.{is_spotted}
use Rattle.oat_grammar.proofs.TextsRead.{text_read}
use Rattle.oat_grammar.proofs.FirstRead.{moved, first_is, others_are, is_read}
use Rattle.oat_grammar.proofs.ExprsSaid.{none_some, some_is, map_some, giving, chosen_some, wanting, naming, numbering, arguing}

-- ---- lists

each_more : {X : Type 0} (P : X → Type 0) (xs : List X) (x : X) → Each P xs → P x → Each P (xs ++ x ∷ [])
each_more P [] x h p = (p, tt)
each_more P (y ∷ xs) x h p = (h.0, each_more P xs x h.1 p)

body_fits : (ss : List Stmt) → Each StmtFits ss → BodyFits (body_of_list ss)
body_fits [] h = tt
body_fits (s ∷ ss) h = (h.0, body_fits ss h.1)

exprs_fit : (es : List Expr) → Each ExprFits es → ExprsFit (exprs_of_list es)
exprs_fit [] h = tt
exprs_fit (e ∷ es) h = (h.0, exprs_fit es h.1)

exprs_more : (es : List Expr) (e : Expr) → Each ExprFits es → ExprFits e → Each ExprFits (es ++ e ∷ [])
exprs_more es e h i = each_more ExprFits es e h i

stmts_more : (ss : List Stmt) (s : Stmt) → Each StmtFits ss → StmtFits s → Each StmtFits (ss ++ s ∷ [])
stmts_more ss s h i = each_more StmtFits ss s h i

-- ---- places

abbrev PendingFits : Pending → Type 0
PendingFits bottom = Unit {0}
PendingFits (minus_before p) = PendingFits p
PendingFits (left_of op a p) = ExprFits a × PendingFits p
PendingFits (in_brackets p) = PendingFits p
PendingFits (index_of x p) = IsFreeName x × PendingFits p
PendingFits (argument_of f es p) = IsFreeName f × Each ExprFits es × PendingFits p

abbrev UseFits : Use → Type 0
UseFits (to_declare x) = IsFreeName x
UseFits (to_assign x) = IsFreeName x
UseFits (to_index x) = IsFreeName x
UseFits (to_store x e) = IsFreeName x × ExprFits e
UseFits (to_call f es) = IsFreeName f × Each ExprFits es
UseFits _ = Unit {0}

abbrev OuterFits : Outer → Type 0
OuterFits (in_function r x xs) = HeadFits r x xs
OuterFits (in_choice e ss o) = ExprFits e × Each StmtFits ss × OuterFits o
OuterFits (in_else e a ss o) = ExprFits e × BodyFits a × Each StmtFits ss × OuterFits o
OuterFits (in_loop e ss o) = ExprFits e × Each StmtFits ss × OuterFits o

abbrev InsideFits : Inside → Type 0
InsideFits at_stmt = Unit {0}
InsideFits at_var = Unit {0}
InsideFits (at_declare x) = IsFreeName x
InsideFits (at_target x) = IsFreeName x
InsideFits (at_stored x e) = IsFreeName x × ExprFits e
InsideFits (at_end s) = StmtFits s
InsideFits (at_choice e a) = ExprFits e × BodyFits a
InsideFits (at_else e a) = ExprFits e × BodyFits a
InsideFits (at_operand u p) = UseFits u × PendingFits p
InsideFits (at_name x u p) = IsFreeName x × UseFits u × PendingFits p
InsideFits (at_operator e u p) = ExprFits e × UseFits u × PendingFits p

abbrev LengthFits : Bool → ℕ → Type 0
LengthFits true n = (1 ≤ n) × (n ≤ 4096)
LengthFits false n = (1 ≤ n) × (n ≤ 65536)

-- of a function that has a name in its text
abbrev RoleFits : Role → Type 0
RoleFits Plain = Unit {0}
RoleFits (Operation n) = (1 ≤ n) × (n ≤ 65535)
RoleFits Main = ⊥

abbrev HeadingFits : Heading → Type 0
HeadingFits (at_equals x) = IsFreeName x
HeadingFits (at_square x) = IsFreeName x
HeadingFits (at_either x) = IsFreeName x
HeadingFits (at_start c x) = IsFreeName x
HeadingFits (at_minus c x) = IsFreeName x
HeadingFits (at_length c x) = IsFreeName x
HeadingFits (at_closing c x n) = IsFreeName x × LengthFits c n
HeadingFits (at_last g) = GlobalFits g
HeadingFits (at_function r) = RoleFits r
HeadingFits (at_open r x) = RoleFits r × IsFreeName x
HeadingFits (at_first r x) = RoleFits r × IsFreeName x
HeadingFits (at_comma r x xs) = RoleFits r × ParamsFit x xs
HeadingFits (at_param r x xs) = RoleFits r × ParamsFit x xs × (length xs < 4)
HeadingFits (at_body r x xs) = HeadFits r x xs
HeadingFits _ = Unit {0}

abbrev PlaceFits : Place → Type 0
PlaceFits (between is) = TreeFits is
PlaceFits (heading is h) = TreeFits is × HeadingFits h
PlaceFits (inside is ss o i) = TreeFits is × Each StmtFits ss × OuterFits o × InsideFits i

-- a token that may stand where numbers have this range
abbrev pub TokenFits : Range → Token → Type 0
TokenFits r (Named x) = IsFreeName x
TokenFits r (Number n) = (r.least ≤ n) × (n ≤ r.most)
TokenFits r _ = Unit {0}

-- ---- items

head_fits : (r : Role) (x : Word) (xs : List Word) → RoleFits r → ParamsFit x xs → HeadFits r x xs
head_fits Plain x xs h p = p
head_fits (Operation n) x xs h p = (h.0, h.1, p)
head_fits Main x xs h p = absurd h

item_more : (is : List Item) (i : Item) → TreeFits is → ItemFits i → TreeFits (is ++ i ∷ [])
item_more is i h p = each_more ItemFits is i h p

negative_fits : (n : ℕ) → n ≤ 9223372036854775808 → StartFits (pos 0 -ℤ pos n)
negative_fits zero h = omega arith
negative_fits (suc n) h = subst StartFits (sym (below_zero n)) (omega arith)

array_fits : (c : Bool) (x : Word) (n : ℕ) → IsFreeName x → LengthFits c n → GlobalFits (array_item c x n)
array_fits true x n h l = (h, l.0, l.1)
array_fits false x n h l = (h, l.0, l.1)

length_fits : (is : List Item) (c : Bool) (x : Word) (n : ℕ) → TokenFits (range_of (heading is (at_length c x))) (Number n) → LengthFits c n
length_fits is true x n h = h
length_fits is false x n h = h

either_fits : (is : List Item) (x : Word) (t : Token) (q : Place) → TreeFits is → IsFreeName x → either_next is x t ≡ Some q → PlaceFits q
either_fits is x (Fixed mark.Assign) q i h e = giving PlaceFits e (i, h)
either_fits is x (Fixed mark.OpenSquare) q i h e = giving PlaceFits e (i, h)
either_fits is x _ q i h e = absurd (none_some e)

start_fits : (is : List Item) (c : Bool) (x : Word) (t : Token) (q : Place) → TreeFits is → IsFreeName x → TokenFits (range_of (heading is (at_start c x))) t → start_next is c x t ≡ Some q → PlaceFits q
start_fits is c x (Number n) q i h f e = giving PlaceFits e (i, (h, omega (arith, f.1)))
start_fits is c x (Sign Minus) q i h f e = giving PlaceFits e (i, h)
start_fits is c x _ q i h f e = absurd (none_some e)

one_param : (x y : Word) → IsFreeName x → IsFreeName y → ParamsFit x (y ∷ [])
one_param x y h i = record { name = h; params = (i, tt); few = omega arith }

first_fits : (is : List Item) (r : Role) (x : Word) (t : Token) (q : Place) → TreeFits is → RoleFits r → IsFreeName x → TokenFits (range_of (heading is (at_first r x))) t → first_next is r x t ≡ Some q → PlaceFits q
first_fits is r x (Named y) q i k h f e = giving PlaceFits e (i, (k, one_param x y h f))
first_fits is r x (Fixed mark.CloseRound) q i k h f e = giving PlaceFits e (i, head_fits r x [] k (record { name = h; params = tt; few = omega arith }))
first_fits is r x _ q i k h f e = absurd (none_some e)

comma_fits : (is : List Item) (r : Role) (x : Word) (xs : List Word) (t : Token) (q : Place) → TreeFits is → RoleFits r → ParamsFit x xs → comma_next is r x xs t ≡ Some q → PlaceFits q
comma_fits is r x xs (Fixed mark.Comma) q i k h e =
    let c = chosen_some (nat_lt (length xs) 4) (heading is (at_param r x xs)) q e in
    let few : length xs < 4 = grind (arith, nat_tests, c.0) in
    subst PlaceFits c.1 (i, (k, h, few))
comma_fits is r x xs (Fixed mark.CloseRound) q i k h e = giving PlaceFits e (i, head_fits r x xs k h)
comma_fits is r x xs _ q i k h e = absurd (none_some e)

param_more : (x : Word) (xs : List Word) (y : Word) → ParamsFit x xs → length xs < 4 → IsFreeName y → ParamsFit x (xs ++ y ∷ [])
param_more x xs y h few f = record { name = h.name; params = each_more IsFreeName xs y h.params f; few = omega (arith, length-append xs (y ∷ [])) }

heading_fits : (is : List Item) (h : Heading) (t : Token) (q : Place) → TreeFits is → HeadingFits h → TokenFits (range_of (heading is h)) t → heading_next is h t ≡ Some q → PlaceFits q
heading_fits is at_global t q i h f e = naming t _ q (λ u k. TokenFits (range_of (heading is at_global)) u → PlaceFits k) e (λ x g. (i, g)) f
heading_fits is at_array t q i h f e = naming t _ q (λ u k. TokenFits (range_of (heading is at_array)) u → PlaceFits k) e (λ x g. (i, g)) f
heading_fits is at_critical t q i h f e = naming t _ q (λ u k. TokenFits (range_of (heading is at_critical)) u → PlaceFits k) e (λ x g. (i, g)) f
heading_fits is (at_equals x) t q i h f e = wanting mark.Assign t _ q (λ u k. PlaceFits k) e (i, h)
heading_fits is (at_square x) t q i h f e = wanting mark.OpenSquare t _ q (λ u k. PlaceFits k) e (i, h)
heading_fits is (at_either x) t q i h f e = either_fits is x t q i h e
heading_fits is (at_start c x) t q i h f e = start_fits is c x t q i h f e
heading_fits is (at_minus c x) t q i h f e = numbering t _ q (λ u k. TokenFits (range_of (heading is (at_minus c x))) u → PlaceFits k) e (λ n g. (i, (h, negative_fits n g.1))) f
heading_fits is (at_length c x) t q i h f e = numbering t _ q (λ u k. TokenFits (range_of (heading is (at_length c x))) u → PlaceFits k) e (λ n g. (i, (h, length_fits is c x n g))) f
heading_fits is (at_closing c x n) t q i h f e = wanting mark.CloseSquare t _ q (λ u k. PlaceFits k) e (i, array_fits c x n h.0 h.1)
heading_fits is (at_last g) t q i h f e = wanting mark.Semicolon t _ q (λ u k. PlaceFits k) e (item_more is _ i h)
heading_fits is at_id t q i h f e = numbering t _ q (λ u k. TokenFits (range_of (heading is at_id)) u → PlaceFits k) e (λ n g. (i, g)) f
heading_fits is (at_function r) t q i h f e = naming t _ q (λ u k. TokenFits (range_of (heading is (at_function r))) u → PlaceFits k) e (λ x g. (i, (h, g))) f
heading_fits is (at_open r x) t q i h f e = wanting mark.OpenRound t _ q (λ u k. PlaceFits k) e (i, h)
heading_fits is (at_first r x) t q i h f e = first_fits is r x t q i h.0 h.1 f e
heading_fits is (at_comma r x xs) t q i h f e = comma_fits is r x xs t q i h.0 h.1 e
heading_fits is (at_param r x xs) t q i h f e = naming t _ q (λ u k. TokenFits (range_of (heading is (at_param r x xs))) u → PlaceFits k) e (λ y g. (i, (h.0, param_more x xs y h.1 h.2 g))) f
heading_fits is (at_body r x xs) t q i h f e = wanting mark.OpenBrace t _ q (λ u k. PlaceFits k) e (i, tt, h, tt)

between_fits : (is : List Item) (t : Token) (q : Place) → TreeFits is → option_map (heading is) (item_begins t) ≡ Some q → PlaceFits q
between_fits is (Fixed mark.Global) q i e = giving PlaceFits e (i, tt)
between_fits is (Fixed mark.Critical) q i e = giving PlaceFits e (i, tt)
between_fits is (Fixed mark.Array) q i e = giving PlaceFits e (i, tt)
between_fits is (Fixed mark.Fn) q i e = giving PlaceFits e (i, tt)
between_fits is (Fixed mark.Operation) q i e = giving PlaceFits e (i, tt)
between_fits is (Fixed mark.Main) q i e = giving PlaceFits e (i, (refl, refl))
between_fits is _ q i e = absurd (none_some e)

-- ---- expressions

record OperandFits (x : Operand) : Type 0 where
  value : ExprFits x.value
  pending : PendingFits x.pending

settles_left : (b : Bool) (l : ℕ) (op : Operator) (a : Expr) (p : Pending) (e : Expr) → ExprFits a → PendingFits p → ExprFits e → OperandFits (settled l p (binary op a e))
    → OperandFits (if b then settled l p (binary op a e) else record { value = e; pending = left_of op a p })
settles_left true l op a p e h i j deeper = deeper
settles_left false l op a p e h i j deeper = record { value = j; pending = (h, i) }

settles : (l : ℕ) (p : Pending) (e : Expr) → PendingFits p → ExprFits e → OperandFits (settled l p e)
settles l bottom e h i = record { value = i; pending = h }
settles l (minus_before p) e h i = settles l p (negative e) h i
settles l (left_of op a p) e h i = settles_left (nat_le l (level op)) l op a p e h.0 h.1 i (settles l p (binary op a e) h.1 (h.0, i))
settles l (in_brackets p) e h i = record { value = i; pending = h }
settles l (index_of x p) e h i = record { value = i; pending = h }
settles l (argument_of f es p) e h i = record { value = i; pending = h }

no_arguments_fit : (u : Use) (p : Pending) (i : Inside) → UseFits u → PendingFits p → no_arguments u p ≡ Some i → InsideFits i
no_arguments_fit u (argument_of f [] p) i h j e = giving InsideFits e ((j.0, tt), h, j.2)
no_arguments_fit (to_call f []) bottom i h j e = giving InsideFits e (h.0, tt)
no_arguments_fit _ _ i h j e = absurd (none_some e)

low : (n : ℕ) → n ≤ 9223372036854775807 → n < 2 ^ 63
low n h = omega arith

operand_fits : (u : Use) (p : Pending) (t : Token) (i : Inside) (r : Range) → r.most ≡ 9223372036854775807 → UseFits u → PendingFits p → TokenFits r t → operand_next u p t ≡ Some i → InsideFits i
operand_fits u p (Number n) i r m h j f e = giving InsideFits e (low n (omega (arith, f.1)), h, j)
operand_fits u p (Named x) i r m h j f e = giving InsideFits e (f, h, j)
operand_fits u p (Fixed mark.In) i r m h j f e = giving InsideFits e (tt, h, j)
operand_fits u p (Sign Minus) i r m h j f e = giving InsideFits e (h, j)
operand_fits u p (Fixed mark.OpenRound) i r m h j f e = giving InsideFits e (h, j)
operand_fits u p (Fixed mark.CloseRound) i r m h j f e = no_arguments_fit u p i h j e
operand_fits u p _ i r m h j f e = absurd (none_some e)

-- the text around a statement
record AroundFits (is : List Item) (ss : List Stmt) (o : Outer) : Type 0 where
  items : TreeFits is
  stmts : Each StmtFits ss
  outer : OuterFits o

done : (is : List Item) (ss : List Stmt) (o : Outer) (s : Stmt) → AroundFits is ss o → StmtFits s → PlaceFits (inside is (ss ++ s ∷ []) o at_stmt)
done is ss o s w h = (w.items, stmts_more ss s w.stmts h, w.outer, tt)

use_fits : (is : List Item) (ss : List Stmt) (o : Outer) (e : Expr) (u : Use) (t : Token) (q : Place) → AroundFits is ss o → UseFits u → ExprFits e → use_next is ss o e u t ≡ Some q → PlaceFits q
use_fits is ss o e (to_declare x) t q w h i n = wanting mark.Semicolon t _ q (λ u k. PlaceFits k) n (done is ss o _ w (h, i))
use_fits is ss o e (to_assign x) t q w h i n = wanting mark.Semicolon t _ q (λ u k. PlaceFits k) n (done is ss o _ w (h, i))
use_fits is ss o e (to_index x) t q w h i n = wanting mark.CloseSquare t _ q (λ u k. PlaceFits k) n (w.items, w.stmts, w.outer, (h, i))
use_fits is ss o e (to_store x d) t q w h i n = wanting mark.Semicolon t _ q (λ u k. PlaceFits k) n (done is ss o _ w (h.0, h.1, i))
use_fits is ss o e to_choose t q w h i n = wanting mark.OpenBrace t _ q (λ u k. PlaceFits k) n (w.items, tt, (i, w.stmts, w.outer), tt)
use_fits is ss o e to_repeat t q w h i n = wanting mark.OpenBrace t _ q (λ u k. PlaceFits k) n (w.items, tt, (i, w.stmts, w.outer), tt)
use_fits is ss o e to_put t q w h i n = wanting mark.Semicolon t _ q (λ u k. PlaceFits k) n (done is ss o _ w i)
use_fits is ss o e to_return t q w h i n = wanting mark.Semicolon t _ q (λ u k. PlaceFits k) n (done is ss o _ w i)
use_fits is ss o e (to_call f es) t q w h i n =
    arguing es (λ fs. inside is ss o (at_operand (to_call f fs) bottom)) (λ fs. inside is ss o (at_end (call_only f (exprs_of_list fs)))) e t q (λ u k. PlaceFits k) n
    (λ few. (w.items, w.stmts, w.outer, ((h.0, exprs_more es e h.1 i), tt)))
    (w.items, w.stmts, w.outer, (h.0, exprs_fit (es ++ e ∷ []) (exprs_more es e h.1 i)))

closed_fits : (is : List Item) (ss : List Stmt) (o : Outer) (u : Use) (p : Pending) (e : Expr) (t : Token) (q : Place) → AroundFits is ss o → UseFits u → PendingFits p → ExprFits e → closed_next is ss o u p e t ≡ Some q → PlaceFits q
closed_fits is ss o u bottom e t q w h j i n = use_fits is ss o e u t q w h i n
closed_fits is ss o u (minus_before p) e t q w h j i n = absurd (none_some n)
closed_fits is ss o u (left_of op a p) e t q w h j i n = absurd (none_some n)
closed_fits is ss o u (in_brackets p) e t q w h j i n = wanting mark.CloseRound t _ q (λ u k. PlaceFits k) n (w.items, w.stmts, w.outer, (i, h, j))
closed_fits is ss o u (index_of x p) e t q w h j i n = wanting mark.CloseSquare t _ q (λ u k. PlaceFits k) n (w.items, w.stmts, w.outer, ((j.0, i), h, j.1))
closed_fits is ss o u (argument_of f es p) e t q w h j i n =
    arguing es (λ fs. inside is ss o (at_operand u (argument_of f fs p))) (λ fs. inside is ss o (at_operator (call f (exprs_of_list fs)) u p)) e t q (λ u k. PlaceFits k) n
    (λ few. (w.items, w.stmts, w.outer, (h, (j.0, exprs_more es e j.1 i, j.2))))
    (w.items, w.stmts, w.outer, ((j.0, exprs_fit (es ++ e ∷ []) (exprs_more es e j.1 i)), h, j.2))

settled_fits : (is : List Item) (ss : List Stmt) (o : Outer) (u : Use) (x : Operand) (t : Token) (q : Place) → AroundFits is ss o → UseFits u → OperandFits x → settled_next is ss o u x t ≡ Some q → PlaceFits q
settled_fits is ss o u x (Sign op) q w h f n = giving PlaceFits n (w.items, w.stmts, w.outer, (h, (f.value, f.pending)))
settled_fits is ss o u x (Named y) q w h f n = closed_fits is ss o u x.pending x.value (Named y) q w h f.pending f.value n
settled_fits is ss o u x (Number k) q w h f n = closed_fits is ss o u x.pending x.value (Number k) q w h f.pending f.value n
settled_fits is ss o u x (Fixed m) q w h f n = closed_fits is ss o u x.pending x.value (Fixed m) q w h f.pending f.value n

operator_fits : (is : List Item) (ss : List Stmt) (o : Outer) (e : Expr) (u : Use) (p : Pending) (t : Token) (q : Place) → AroundFits is ss o → ExprFits e → UseFits u → PendingFits p → operator_next is ss o e u p t ≡ Some q → PlaceFits q
operator_fits is ss o e u p t q w i h j n = settled_fits is ss o u (settled (level_of t) p e) t q w h (settles (level_of t) p e j i) n

name_fits : (is : List Item) (ss : List Stmt) (o : Outer) (x : Word) (u : Use) (p : Pending) (t : Token) (q : Place) → AroundFits is ss o → IsFreeName x → UseFits u → PendingFits p → name_next is ss o x u p t ≡ Some q → PlaceFits q
name_fits is ss o x u p (Fixed mark.OpenSquare) q w f h j n = giving PlaceFits n (w.items, w.stmts, w.outer, (h, (f, j)))
name_fits is ss o x u p (Fixed mark.OpenRound) q w f h j n = giving PlaceFits n (w.items, w.stmts, w.outer, (h, (f, tt, j)))
name_fits is ss o x u p t q w f h j n = operator_fits is ss o (name x) u p t q w f h j n

-- ---- statements

closes_fit : (is : List Item) (ss : List Stmt) (o : Outer) → AroundFits is ss o → PlaceFits (closes is ss o)
closes_fit is ss (in_function r x xs) w = item_more is _ w.items (w.outer, body_fits ss w.stmts)
closes_fit is ss (in_choice e before o) w = (w.items, w.outer.1, w.outer.2, (w.outer.0, body_fits ss w.stmts))
closes_fit is ss (in_else e a before o) w = (w.items, stmts_more before _ w.outer.2 (w.outer.0, w.outer.1, body_fits ss w.stmts), w.outer.3, tt)
closes_fit is ss (in_loop e before o) w = (w.items, stmts_more before _ w.outer.1 (w.outer.0, body_fits ss w.stmts), w.outer.2, tt)

begins_fit : (t : Token) (i : Inside) (r : Range) → TokenFits r t → stmt_begins t ≡ Some i → InsideFits i
begins_fit (Named x) i r f e = giving InsideFits e f
begins_fit (Fixed mark.Var) i r f e = giving InsideFits e tt
begins_fit (Fixed mark.If) i r f e = giving InsideFits e (tt, tt)
begins_fit (Fixed mark.While) i r f e = giving InsideFits e (tt, tt)
begins_fit (Fixed mark.Out) i r f e = giving InsideFits e (tt, tt)
begins_fit (Fixed mark.Return) i r f e = giving InsideFits e (tt, tt)
begins_fit (Fixed mark.Halt) i r f e = giving InsideFits e tt
begins_fit _ i r f e = absurd (none_some e)

stmt_over : (is : List Item) (ss : List Stmt) (o : Outer) (t : Token) (q : Place) (r : Range) → AroundFits is ss o → TokenFits r t → option_map (inside is ss o) (stmt_begins t) ≡ Some q → PlaceFits q
stmt_over is ss o t q r w f n =
    let c = map_some (stmt_begins t) (inside is ss o) q n in
    subst PlaceFits c.2 (w.items, w.stmts, w.outer, begins_fit t c.0 r f c.1)

stmt_fits : (is : List Item) (ss : List Stmt) (o : Outer) (t : Token) (q : Place) (r : Range) → AroundFits is ss o → TokenFits r t → stmt_next is ss o t ≡ Some q → PlaceFits q
stmt_fits is ss o (Fixed mark.CloseBrace) q r w f n = giving PlaceFits n (closes_fit is ss o w)
stmt_fits is ss o t q r w f n = stmt_over is ss o t q r w f n

chosen : (is : List Item) (ss : List Stmt) (o : Outer) (e : Expr) (a : Body) → AroundFits is ss o → ExprFits e → BodyFits a → AroundFits is (ss ++ choose e a no_stmts ∷ []) o
chosen is ss o e a w h i = record { items = w.items; stmts = stmts_more ss _ w.stmts (h, i, tt); outer = w.outer }

choice_fits : (is : List Item) (ss : List Stmt) (o : Outer) (e : Expr) (a : Body) (t : Token) (q : Place) (r : Range) → AroundFits is ss o → ExprFits e → BodyFits a → TokenFits r t → choice_next is ss o e a t ≡ Some q → PlaceFits q
choice_fits is ss o e a (Fixed mark.Else) q r w h i f n = giving PlaceFits n (w.items, w.stmts, w.outer, (h, i))
choice_fits is ss o e a t q r w h i f n = stmt_fits is (ss ++ choose e a no_stmts ∷ []) o t q r (chosen is ss o e a w h i) f n

target_fits : (x : Word) (t : Token) (i : Inside) → IsFreeName x → target_next x t ≡ Some i → InsideFits i
target_fits x (Fixed mark.Assign) i h e = giving InsideFits e (h, tt)
target_fits x (Fixed mark.OpenSquare) i h e = giving InsideFits e (h, tt)
target_fits x (Fixed mark.OpenRound) i h e = giving InsideFits e ((h, tt), tt)
target_fits x _ i h e = absurd (none_some e)

inside_fits : (is : List Item) (ss : List Stmt) (o : Outer) (i : Inside) (t : Token) (q : Place) → AroundFits is ss o → InsideFits i → TokenFits (range_of (inside is ss o i)) t → inside_next is ss o i t ≡ Some q → PlaceFits q
inside_fits is ss o at_stmt t q w h f n = stmt_fits is ss o t q (range_of (inside is ss o at_stmt)) w f n
inside_fits is ss o at_var t q w h f n = naming t _ q (λ u k. TokenFits (range_of (inside is ss o at_var)) u → PlaceFits k) n (λ x g. (w.items, w.stmts, w.outer, g)) f
inside_fits is ss o (at_declare x) t q w h f n = wanting mark.Assign t _ q (λ u k. PlaceFits k) n (w.items, w.stmts, w.outer, (h, tt))
inside_fits is ss o (at_target x) t q w h f n =
    let c = map_some (target_next x t) (inside is ss o) q n in
    subst PlaceFits c.2 (w.items, w.stmts, w.outer, target_fits x t c.0 h c.1)
inside_fits is ss o (at_stored x e) t q w h f n = wanting mark.Assign t _ q (λ u k. PlaceFits k) n (w.items, w.stmts, w.outer, (h, tt))
inside_fits is ss o (at_end s) t q w h f n = wanting mark.Semicolon t _ q (λ u k. PlaceFits k) n (done is ss o s w h)
inside_fits is ss o (at_choice e a) t q w h f n = choice_fits is ss o e a t q (range_of (inside is ss o (at_choice e a))) w h.0 h.1 f n
inside_fits is ss o (at_else e a) t q w h f n = wanting mark.OpenBrace t _ q (λ u k. PlaceFits k) n (w.items, tt, (h.0, h.1, w.stmts, w.outer), tt)
inside_fits is ss o (at_operand u p) t q w h f n =
    let c = map_some (operand_next u p t) (inside is ss o) q n in
    subst PlaceFits c.2 (w.items, w.stmts, w.outer, operand_fits u p t c.0 (range_of (inside is ss o (at_operand u p))) refl h.0 h.1 f c.1)
inside_fits is ss o (at_name x u p) t q w h f n = name_fits is ss o x u p t q w h.0 h.1 h.2 n
inside_fits is ss o (at_operator e u p) t q w h f n = operator_fits is ss o e u p t q w h.0 h.1 h.2 n

next_fits : (p : Place) (t : Token) (q : Place) → PlaceFits p → TokenFits (range_of p) t → next p t ≡ Some q → PlaceFits q
next_fits (between is) t q h f n = between_fits is t q h n
next_fits (heading is i) t q h f n = heading_fits is i t q h.0 h.1 f n
next_fits (inside is ss o i) t q h f n = inside_fits is ss o i t q (record { items = h.0; stmts = h.1; outer = h.2 }) h.3 f n

-- ---- texts

abbrev pub IsNamed : Token → Type 0
IsNamed (Named x) = IsFreeName x
IsNamed _ = Unit {0}

in_range : (r : Range) (n : ℕ) → (nat_le r.least n && nat_le n r.most) ≡ true → (r.least ≤ n) × (n ≤ r.most)
in_range r n h =
    let p = and_parts (nat_le r.least n) (nat_le n r.most) h in
    let least : r.least ≤ n = grind (arith, nat_tests, p.0) in
    let most : n ≤ r.most = grind (arith, nat_tests, p.1) in
    (least, most)

token_fits : (r : Range) (t : Token) → IsNamed t → is_within r t ≡ true → TokenFits r t
token_fits r (Named x) h w = h
token_fits r (Number n) h w = in_range r n w
token_fits r (Fixed m) h w = tt
token_fits r (Sign o) h w = tt

goes_fits : (ts : List Token) (p q : Place) → PlaceFits p → Each IsNamed ts → NumbersFit ts p → goes ts p ≡ Some q → PlaceFits q
goes_fits [] p q h named fit g = subst PlaceFits (some_is g) h
goes_fits (t ∷ ts) p q h named fit g =
    let m = moved (next p t) ts q g in
    goes_fits ts m.0 q (next_fits p t m.0 h (token_fits (range_of p) t named.0 fit.0) m.1) named.1 (subst (λ (x : Option Place). At x (NumbersFit ts)) m.1 fit.1) m.2

-- ---- the names of a text's words are free ones

same_name : {v w : Word} → Some (Named w) ≡ Some (Named v) → w ≡ v
same_name h = cc

record NamedWord (x : Option Token) : Type 0 where
  free : (w : Word) → x ≡ Some (Named w) → IsFreeName w

nothing_named : NamedWord None
nothing_named = record { free = λ w e. absurd (none_some e) }

fixed_named : {m : Mark} → NamedWord (Some (Fixed m))
fixed_named = record { free = λ w e. cc }

sign_named : {o : Operator} → NamedWord (Some (Sign o))
sign_named = record { free = λ w e. cc }

one_of : (b : Bool) {x y : Option Token} → NamedWord x → NamedWord y → NamedWord (if b then x else y)
one_of b {x} {y} h i = elim b as (λ c. NamedWord (if c then x else y)) [ true ↦ h | false ↦ i ]

pair_named : (a b : ℕ) → NamedWord (pair_token a b)
pair_named a b =
    one_of (b == 61) (one_of (a == 61) sign_named (one_of (a == 33) sign_named (one_of (a == 60) sign_named (one_of (a == 62) sign_named nothing_named))))
    (one_of (b == 60) (one_of (a == 60) sign_named nothing_named) (one_of (b == 62) (one_of (a == 62) sign_named nothing_named) nothing_named))

solid_named : (b : ℕ) → NamedWord (sign_token b)
solid_named b =
    one_of (b == 61) fixed_named (
    one_of (b == 59) fixed_named (
    one_of (b == 44) fixed_named (
    one_of (b == 40) fixed_named (
    one_of (b == 41) fixed_named (
    one_of (b == 91) fixed_named (
    one_of (b == 93) fixed_named (
    one_of (b == 123) fixed_named (
    one_of (b == 125) fixed_named (
    one_of (b == 60) sign_named (
    one_of (b == 62) sign_named (
    one_of (b == 124) sign_named (
    one_of (b == 94) sign_named (
    one_of (b == 38) sign_named (
    one_of (b == 43) sign_named (
    one_of (b == 45) sign_named (
    one_of (b == 42) sign_named (
    one_of (b == 47) sign_named (
    one_of (b == 37) sign_named nothing_named))))))))))))))))))

keyword_named : (x : Option Keyword) → NamedWord (option_map (λ k. Fixed k.keyword) x)
keyword_named None = nothing_named
keyword_named (Some k) = fixed_named

name_named : (w : Word) (b : Bool) → is_free_name w ≡ b → NamedWord (if b then Some (Named w) else option_map (λ k. Fixed k.keyword) (keyword_in w))
name_named w true h = record { free = λ v e. subst IsFreeName (same_name e) h }
name_named w false h = keyword_named (keyword_in w)

word_named_by : (w : Word) (n : Option ℕ) → NamedWord (number_or_name w n)
word_named_by w None = name_named w (is_free_name w) refl
word_named_by w (Some n) = record { free = λ v e. cc }

words_named : {line : ℕ} {bs : List ℕ} {ss : List Spot} → IsSpotted line bs ss → Each NamedWord (map token_of ss)
words_named ends = tt
words_named (separates b e d) = words_named d
words_named (breaks b e d) = words_named d
words_named (comments cs h i d) = words_named d
words_named (spells w h i j d) = (word_named_by w (numeral_of w), words_named d)
words_named (pairs a b t e h d) = (subst NamedWord h (pair_named a b), words_named d)
words_named (signs a e h d) = (solid_named a, words_named d)

token_named : (t : Token) → NamedWord (Some t) → IsNamed t
token_named (Named x) h = h.free x refl
token_named (Number n) h = tt
token_named (Fixed m) h = tt
token_named (Sign o) h = tt

tokens_named : (xs : List (Option Token)) (ts : List Token) → xs ≡ map Some ts → Each NamedWord xs → Each IsNamed ts
tokens_named [] [] e h = tt
tokens_named [] (t ∷ ts) e h = cc
tokens_named (x ∷ xs) [] e h = cc
tokens_named (x ∷ xs) (t ∷ ts) e h = (token_named t (subst NamedWord (first_is e) h.0), tokens_named xs ts (others_are e) h.1)

pub read_fits : (text : List ℕ) (items : List Item) → first_reading text ≡ Ok items → TreeFits items
read_fits text items h =
    let d = is_read text items h in
    goes_fits d.tokens (between []) (between items) tt (tokens_named (map token_of (spots text)) d.tokens d.spelled (words_named (is_spotted text))) d.fit (text_read d.whole)
