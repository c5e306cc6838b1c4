-- How many things a text is made of.
use Rattle.std.specs.Prelude.{ℕ, suc, ◌+◌, max, length}
use Rattle.std.specs.List.{sum_by}
use Rattle.oat_tree.specs.Syntax.{Expr, number, name, element, call, input, negative, binary, Exprs, no_exprs, expr, Stmt, declare, assign, assign_element, choose, repeat, put, return, halt, call_only, Body, no_stmts, stmt, Function, Tree}
use Rattle.oat_tree.specs.Scopes.{functions_of}

abbrev pub exprs_count : Exprs → ℕ
exprs_count no_exprs = 0
exprs_count (expr e es) = suc (exprs_count es)

-- the nodes of an expression
abbrev mutual
  pub expr_size : Expr → ℕ
  expr_size (number value) = 1
  expr_size (name x) = 1
  expr_size (element a e) = expr_size e + 1
  expr_size (call f es) = exprs_size es + 1
  expr_size input = 1
  expr_size (negative e) = expr_size e + 1
  expr_size (binary op a b) = expr_size a + expr_size b + 1

  pub exprs_size : Exprs → ℕ
  exprs_size no_exprs = 0
  exprs_size (expr e es) = expr_size e + exprs_size es

-- the greatest number of nodes that one statement has in its own expressions, those outside its bodies
abbrev mutual
  pub stmt_room : Stmt → ℕ
  stmt_room (declare x e) = expr_size e
  stmt_room (assign x e) = expr_size e
  stmt_room (assign_element a e f) = expr_size e + expr_size f
  stmt_room (choose e a b) = max (expr_size e) (max (body_room a) (body_room b))
  stmt_room (repeat e a) = max (expr_size e) (body_room a)
  stmt_room (put e) = expr_size e
  stmt_room (return e) = expr_size e
  stmt_room halt = 0
  stmt_room (call_only f es) = exprs_size es + 1

  pub body_room : Body → ℕ
  body_room no_stmts = 0
  body_room (stmt s b) = max (stmt_room s) (body_room b)

-- the nodes and statements of a body, and the bodies in it. An empty second body of `if` is none.
abbrev mutual
  pub stmt_parts : Stmt → ℕ
  stmt_parts (declare x e) = 1 + expr_size e
  stmt_parts (assign x e) = 1 + expr_size e
  stmt_parts (assign_element a e f) = 1 + expr_size e + expr_size f
  stmt_parts (choose e a b) = 1 + expr_size e + (1 + stmts_parts a) + else_parts b
  stmt_parts (repeat e a) = 1 + expr_size e + (1 + stmts_parts a)
  stmt_parts (put e) = 1 + expr_size e
  stmt_parts (return e) = 1 + expr_size e
  stmt_parts halt = 1
  stmt_parts (call_only f es) = 1 + exprs_size es + 1

  pub stmts_parts : Body → ℕ
  stmts_parts no_stmts = 0
  stmts_parts (stmt s b) = stmt_parts s + stmts_parts b

  pub else_parts : Body → ℕ
  else_parts no_stmts = 0
  else_parts (stmt s b) = 1 + (stmt_parts s + stmts_parts b)

-- the body itself too
abbrev pub body_parts : Body → ℕ
body_parts b = 1 + stmts_parts b

-- nodes, statements and bodies
abbrev pub parts_of : Tree → ℕ
parts_of tree = sum_by (λ f. body_parts f.body) (functions_of tree)

abbrev pub function_size : Function → ℕ
function_size f = length f.params + body_parts f.body

-- items, parameters, bodies, statements and nodes
abbrev pub tree_size : Tree → ℕ
tree_size tree = length tree + sum_by function_size (functions_of tree)
