-- The reader as a machine: it is at a place, and each token leads to the next one, or no text goes on with that token.
use Rattle.std.specs.Prelude.{ℕ, Bool, true, false, nat_eq, nat_lt, nat_le, if◌then◌else◌, List, [], ◌∷◌, ◌++◌, length, Option, Some, None, ℤ, pos, ◌-ℤ◌, codes}
use Rattle.oat_tree.specs.Levels.{level}
use Rattle.std.specs.Option.{option_map, option_and_then}
use Rattle.oat_ir.specs.declared.func.Role.{Role}
use Rattle.oat_ir.specs.declared.func.Role.TheVariants.{Plain, Operation, Main}
use Rattle.oat_ir.specs.declared.program.GlobalItem.{GlobalItem}
use Rattle.oat_ir.specs.declared.program.GlobalItem.TheVariants.{Scalar, Array, CriticalArray}
use Rattle.oat_grammar.specs.declared.token.Mark.{Mark}
use Rattle.oat_grammar.specs.declared.token.Mark.TheVariants as mark
use Rattle.oat_tree.specs.declared.operator.Operator.{Operator}
use Rattle.oat_tree.specs.declared.operator.Operator.TheVariants.{Minus}
use Rattle.oat_grammar.specs.declared.token.Token.{Token}
use Rattle.oat_grammar.specs.declared.token.Token.TheVariants.{Named, Number, Fixed, Sign}
use Rattle.oat_tree.specs.Syntax.{Word, Expr, number, name, element, call, input, negative, binary, Exprs, no_exprs, expr, Stmt, declare, assign, assign_element, choose, repeat, put, return, halt, call_only, Body, no_stmts, stmt, Item, global, function, body_of_list, exprs_of_list}

-- ---- places

-- what is open in an expression, the innermost first
pub data Pending : Type 0 where
  bottom : Pending
  minus_before : Pending → Pending
  -- an operator with its left operand
  left_of : Operator → Expr → Pending → Pending
  in_brackets : Pending → Pending
  index_of : Word → Pending → Pending
  -- with the arguments before
  argument_of : Word → List Expr → Pending → Pending

-- the statement whose expression is read
pub data Use : Type 0 where
  to_declare : Word → Use
  to_assign : Word → Use
  to_index : Word → Use
  to_store : Word → Expr → Use
  to_choose : Use
  to_repeat : Use
  to_put : Use
  to_return : Use
  to_call : Word → List Expr → Use

-- what the innermost open body is, with the statements before it where it is in a statement
pub data Outer : Type 0 where
  in_function : Role → Word → List Word → Outer
  in_choice : Expr → List Stmt → Outer → Outer
  in_else : Expr → Body → List Stmt → Outer → Outer
  in_loop : Expr → List Stmt → Outer → Outer

-- a place in a body
pub data Inside : Type 0 where
  at_stmt : Inside
  at_var : Inside
  at_declare : Word → Inside
  at_target : Word → Inside
  at_stored : Word → Expr → Inside
  at_end : Stmt → Inside
  at_choice : Expr → Body → Inside
  at_else : Expr → Body → Inside
  at_operand : Use → Pending → Inside
  at_name : Word → Use → Pending → Inside
  at_operator : Expr → Use → Pending → Inside

-- a place in an item, outside bodies
pub data Heading : Type 0 where
  at_global : Heading
  at_array : Heading
  at_critical : Heading
  at_equals : Word → Heading
  at_square : Word → Heading
  at_either : Word → Heading
  at_start : Bool → Word → Heading
  at_minus : Bool → Word → Heading
  at_length : Bool → Word → Heading
  at_closing : Bool → Word → ℕ → Heading
  at_last : GlobalItem → Heading
  at_id : Heading
  at_function : Role → Heading
  at_open : Role → Word → Heading
  at_first : Role → Word → Heading
  at_comma : Role → Word → List Word → Heading
  at_param : Role → Word → List Word → Heading
  at_body : Role → Word → List Word → Heading

pub data Place : Type 0 where
  between : List Item → Place
  heading : List Item → Heading → Place
  inside : List Item → List Stmt → Outer → Inside → Place

-- ---- tokens

abbrev pub mark_number : Mark → ℕ
mark_number mark.Global = 0
mark_number mark.Critical = 1
mark_number mark.Array = 2
mark_number mark.Fn = 3
mark_number mark.Operation = 4
mark_number mark.Main = 5
mark_number mark.Var = 6
mark_number mark.If = 7
mark_number mark.Else = 8
mark_number mark.While = 9
mark_number mark.Out = 10
mark_number mark.Return = 11
mark_number mark.Halt = 12
mark_number mark.In = 13
mark_number mark.Assign = 14
mark_number mark.Semicolon = 15
mark_number mark.Comma = 16
mark_number mark.OpenRound = 17
mark_number mark.CloseRound = 18
mark_number mark.OpenSquare = 19
mark_number mark.CloseSquare = 20
mark_number mark.OpenBrace = 21
mark_number mark.CloseBrace = 22

abbrev pub is_fixed : Mark → Token → Bool
is_fixed m (Fixed n) = nat_eq (mark_number m) (mark_number n)
is_fixed m _ = false

abbrev pub wants : Mark → Token → Place → Option Place
wants m t p = if is_fixed m t then Some p else None

abbrev pub wants_name : Token → (Word → Place) → Option Place
wants_name (Named x) p = Some (p x)
wants_name _ p = None

abbrev pub wants_number : Token → (ℕ → Place) → Option Place
wants_number (Number n) p = Some (p n)
wants_number _ p = None

-- ---- items

abbrev pub item_begins : Token → Option Heading
item_begins (Fixed mark.Global) = Some at_global
item_begins (Fixed mark.Critical) = Some at_critical
item_begins (Fixed mark.Array) = Some at_array
item_begins (Fixed mark.Fn) = Some (at_function Plain)
item_begins (Fixed mark.Operation) = Some at_id
item_begins (Fixed mark.Main) = Some (at_body Main (codes "main") [])
item_begins _ = None

abbrev pub array_item : Bool → Word → ℕ → GlobalItem
array_item true x n = CriticalArray x n
array_item false x n = Array x n

abbrev pub scalar_item : Bool → Word → ℤ → GlobalItem
scalar_item c x start = Scalar x start c

abbrev pub either_next : List Item → Word → Token → Option Place
either_next is x (Fixed mark.Assign) = Some (heading is (at_start true x))
either_next is x (Fixed mark.OpenSquare) = Some (heading is (at_length true x))
either_next is x _ = None

abbrev pub start_next : List Item → Bool → Word → Token → Option Place
start_next is c x (Number n) = Some (heading is (at_last (scalar_item c x (pos n))))
start_next is c x (Sign Minus) = Some (heading is (at_minus c x))
start_next is c x _ = None

abbrev pub first_next : List Item → Role → Word → Token → Option Place
first_next is r x (Named y) = Some (heading is (at_comma r x (y ∷ [])))
first_next is r x (Fixed mark.CloseRound) = Some (heading is (at_body r x []))
first_next is r x _ = None

abbrev pub comma_next : List Item → Role → Word → List Word → Token → Option Place
comma_next is r x xs (Fixed mark.Comma) = if nat_lt (length xs) 4 then Some (heading is (at_param r x xs)) else None
comma_next is r x xs (Fixed mark.CloseRound) = Some (heading is (at_body r x xs))
comma_next is r x xs _ = None

abbrev pub heading_next : List Item → Heading → Token → Option Place
heading_next is at_global t = wants_name t (λ x. heading is (at_equals x))
heading_next is at_array t = wants_name t (λ x. heading is (at_square x))
heading_next is at_critical t = wants_name t (λ x. heading is (at_either x))
heading_next is (at_equals x) t = wants mark.Assign t (heading is (at_start false x))
heading_next is (at_square x) t = wants mark.OpenSquare t (heading is (at_length false x))
heading_next is (at_either x) t = either_next is x t
heading_next is (at_start c x) t = start_next is c x t
heading_next is (at_minus c x) t = wants_number t (λ n. heading is (at_last (scalar_item c x (pos 0 -ℤ pos n))))
heading_next is (at_length c x) t = wants_number t (λ n. heading is (at_closing c x n))
heading_next is (at_closing c x n) t = wants mark.CloseSquare t (heading is (at_last (array_item c x n)))
heading_next is (at_last i) t = wants mark.Semicolon t (between (is ++ global i ∷ []))
heading_next is at_id t = wants_number t (λ n. heading is (at_function (Operation n)))
heading_next is (at_function r) t = wants_name t (λ x. heading is (at_open r x))
heading_next is (at_open r x) t = wants mark.OpenRound t (heading is (at_first r x))
heading_next is (at_first r x) t = first_next is r x t
heading_next is (at_comma r x xs) t = comma_next is r x xs t
heading_next is (at_param r x xs) t = wants_name t (λ y. heading is (at_comma r x (xs ++ y ∷ [])))
heading_next is (at_body r x xs) t = wants mark.OpenBrace t (inside is [] (in_function r x xs) at_stmt)

-- ---- expressions

-- an operand with the operators before it that bind it: those of a level or tighter
pub record Operand : Type 0 where
  pub value : Expr
  pub pending : Pending

abbrev pub settled : ℕ → Pending → Expr → Operand
settled l (minus_before p) e = settled l p (negative e)
settled l (left_of o a p) e = if nat_le l (level o) then settled l p (binary o a e) else record { value = e; pending = left_of o a p }
settled l bottom e = record { value = e; pending = bottom }
settled l (in_brackets p) e = record { value = e; pending = in_brackets p }
settled l (index_of x p) e = record { value = e; pending = index_of x p }
settled l (argument_of f es p) e = record { value = e; pending = argument_of f es p }

-- a list of arguments that has no expression yet may end
abbrev pub no_arguments : Use → Pending → Option Inside
no_arguments u (argument_of f [] p) = Some (at_operator (call f no_exprs) u p)
no_arguments (to_call f []) bottom = Some (at_end (call_only f no_exprs))
no_arguments u p = None

abbrev pub operand_next : Use → Pending → Token → Option Inside
operand_next u p (Number n) = Some (at_operator (number n) u p)
operand_next u p (Named x) = Some (at_name x u p)
operand_next u p (Fixed mark.In) = Some (at_operator input u p)
operand_next u p (Sign Minus) = Some (at_operand u (minus_before p))
operand_next u p (Fixed mark.OpenRound) = Some (at_operand u (in_brackets p))
operand_next u p (Fixed mark.CloseRound) = no_arguments u p
operand_next u p _ = None

-- behind an argument: `others` are those before it
abbrev pub argument_next : List Expr → (List Expr → Place) → (List Expr → Place) → Expr → Token → Option Place
argument_next others onward closed e (Fixed mark.Comma) = if nat_lt (length others) 3 then Some (onward (others ++ e ∷ [])) else None
argument_next others onward closed e (Fixed mark.CloseRound) = Some (closed (others ++ e ∷ []))
argument_next others onward closed e _ = None

abbrev pub use_next : List Item → List Stmt → Outer → Expr → Use → Token → Option Place
use_next is ss o e (to_declare x) t = wants mark.Semicolon t (inside is (ss ++ declare x e ∷ []) o at_stmt)
use_next is ss o e (to_assign x) t = wants mark.Semicolon t (inside is (ss ++ assign x e ∷ []) o at_stmt)
use_next is ss o e (to_index x) t = wants mark.CloseSquare t (inside is ss o (at_stored x e))
use_next is ss o e (to_store x i) t = wants mark.Semicolon t (inside is (ss ++ assign_element x i e ∷ []) o at_stmt)
use_next is ss o e to_choose t = wants mark.OpenBrace t (inside is [] (in_choice e ss o) at_stmt)
use_next is ss o e to_repeat t = wants mark.OpenBrace t (inside is [] (in_loop e ss o) at_stmt)
use_next is ss o e to_put t = wants mark.Semicolon t (inside is (ss ++ put e ∷ []) o at_stmt)
use_next is ss o e to_return t = wants mark.Semicolon t (inside is (ss ++ return e ∷ []) o at_stmt)
use_next is ss o e (to_call f es) t = argument_next es (λ fs. inside is ss o (at_operand (to_call f fs) bottom)) (λ fs. inside is ss o (at_end (call_only f (exprs_of_list fs)))) e t

-- a token behind a whole expression that is no operator
abbrev pub closed_next : List Item → List Stmt → Outer → Use → Pending → Expr → Token → Option Place
closed_next is ss o u bottom e t = use_next is ss o e u t
closed_next is ss o u (in_brackets p) e t = wants mark.CloseRound t (inside is ss o (at_operator e u p))
closed_next is ss o u (index_of x p) e t = wants mark.CloseSquare t (inside is ss o (at_operator (element x e) u p))
closed_next is ss o u (argument_of f es p) e t = argument_next es (λ fs. inside is ss o (at_operand u (argument_of f fs p))) (λ fs. inside is ss o (at_operator (call f (exprs_of_list fs)) u p)) e t
closed_next is ss o u (minus_before p) e t = None
closed_next is ss o u (left_of op a p) e t = None

-- how tight a token binds what is before it
abbrev pub level_of : Token → ℕ
level_of (Sign op) = level op
level_of _ = 0

abbrev pub settled_next : List Item → List Stmt → Outer → Use → Operand → Token → Option Place
settled_next is ss o u x (Sign op) = Some (inside is ss o (at_operand u (left_of op x.value x.pending)))
settled_next is ss o u x t = closed_next is ss o u x.pending x.value t

abbrev pub operator_next : List Item → List Stmt → Outer → Expr → Use → Pending → Token → Option Place
operator_next is ss o e u p t = settled_next is ss o u (settled (level_of t) p e) t

abbrev pub name_next : List Item → List Stmt → Outer → Word → Use → Pending → Token → Option Place
name_next is ss o x u p (Fixed mark.OpenSquare) = Some (inside is ss o (at_operand u (index_of x p)))
name_next is ss o x u p (Fixed mark.OpenRound) = Some (inside is ss o (at_operand u (argument_of x [] p)))
name_next is ss o x u p t = operator_next is ss o (name x) u p t

-- ---- statements

abbrev pub closes : List Item → List Stmt → Outer → Place
closes is ss (in_function r x xs) = between (is ++ function (record { name = x; role = r; params = xs; body = body_of_list ss }) ∷ [])
closes is ss (in_choice e before o) = inside is before o (at_choice e (body_of_list ss))
closes is ss (in_else e a before o) = inside is (before ++ choose e a (body_of_list ss) ∷ []) o at_stmt
closes is ss (in_loop e before o) = inside is (before ++ repeat e (body_of_list ss) ∷ []) o at_stmt

abbrev pub stmt_begins : Token → Option Inside
stmt_begins (Named x) = Some (at_target x)
stmt_begins (Fixed mark.Var) = Some at_var
stmt_begins (Fixed mark.If) = Some (at_operand to_choose bottom)
stmt_begins (Fixed mark.While) = Some (at_operand to_repeat bottom)
stmt_begins (Fixed mark.Out) = Some (at_operand to_put bottom)
stmt_begins (Fixed mark.Return) = Some (at_operand to_return bottom)
stmt_begins (Fixed mark.Halt) = Some (at_end halt)
stmt_begins _ = None

abbrev pub stmt_next : List Item → List Stmt → Outer → Token → Option Place
stmt_next is ss o (Fixed mark.CloseBrace) = Some (closes is ss o)
stmt_next is ss o t = option_map (inside is ss o) (stmt_begins t)

abbrev pub choice_next : List Item → List Stmt → Outer → Expr → Body → Token → Option Place
choice_next is ss o e a (Fixed mark.Else) = Some (inside is ss o (at_else e a))
choice_next is ss o e a t = stmt_next is (ss ++ choose e a no_stmts ∷ []) o t

abbrev pub target_next : Word → Token → Option Inside
target_next x (Fixed mark.Assign) = Some (at_operand (to_assign x) bottom)
target_next x (Fixed mark.OpenSquare) = Some (at_operand (to_index x) bottom)
target_next x (Fixed mark.OpenRound) = Some (at_operand (to_call x []) bottom)
target_next x _ = None

abbrev pub inside_next : List Item → List Stmt → Outer → Inside → Token → Option Place
inside_next is ss o at_stmt t = stmt_next is ss o t
inside_next is ss o at_var t = wants_name t (λ x. inside is ss o (at_declare x))
inside_next is ss o (at_declare x) t = wants mark.Assign t (inside is ss o (at_operand (to_declare x) bottom))
inside_next is ss o (at_target x) t = option_map (inside is ss o) (target_next x t)
inside_next is ss o (at_stored x e) t = wants mark.Assign t (inside is ss o (at_operand (to_store x e) bottom))
inside_next is ss o (at_end s) t = wants mark.Semicolon t (inside is (ss ++ s ∷ []) o at_stmt)
inside_next is ss o (at_choice e a) t = choice_next is ss o e a t
inside_next is ss o (at_else e a) t = wants mark.OpenBrace t (inside is [] (in_else e a ss o) at_stmt)
inside_next is ss o (at_operand u p) t = option_map (inside is ss o) (operand_next u p t)
inside_next is ss o (at_name x u p) t = name_next is ss o x u p t
inside_next is ss o (at_operator e u p) t = operator_next is ss o e u p t

-- ---- the machine

abbrev pub next : Place → Token → Option Place
next (between is) t = option_map (heading is) (item_begins t)
next (heading is h) t = heading_next is h t
next (inside is ss o i) t = inside_next is ss o i t

abbrev pub goes : List Token → Place → Option Place
goes [] p = Some p
goes (t ∷ ts) p = option_and_then (goes ts) (next p t)
