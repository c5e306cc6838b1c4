-- A body has room for each of its statements exactly where each has at most so many nodes.
use Rattle.std.proofs.Common.{◌≡◌, ℕ, ◌+◌, ◌≤◌, arith}
use Rattle.std.specs.Prelude.{max}
use Rattle.oat_tree.specs.Syntax.{Stmt, declare, assign, assign_element, choose, repeat, put, return, halt, call_only, Body, no_stmts, stmt}
use Rattle.oat_tree.specs.Sizes.{expr_size, exprs_size, stmt_room, body_room}

-- each statement has at most 255 in its own expressions
abbrev mutual
  pub IsShort : Stmt → Type 0
  IsShort (declare x e) = expr_size e ≤ 255
  IsShort (assign x e) = expr_size e ≤ 255
  IsShort (assign_element x e f) = expr_size e + expr_size f ≤ 255
  IsShort (choose e a b) = (expr_size e ≤ 255) × AreShort a × AreShort b
  IsShort (repeat e a) = (expr_size e ≤ 255) × AreShort a
  IsShort (put e) = expr_size e ≤ 255
  IsShort (return e) = expr_size e ≤ 255
  IsShort halt = Unit {0}
  IsShort (call_only f es) = 1 + exprs_size es ≤ 255

  pub AreShort : Body → Type 0
  AreShort no_stmts = Unit {0}
  AreShort (stmt s b) = IsShort s × AreShort b

mutual
  stmt_has_room : (s : Stmt) → IsShort s → stmt_room s ≤ 255
  stmt_has_room (declare x e) h = h
  stmt_has_room (assign x e) h = h
  stmt_has_room (assign_element x e f) h = h
  stmt_has_room (choose e a b) h = omega (arith, h.0, has_room a h.1, has_room b h.2)
  stmt_has_room (repeat e a) h = omega (arith, h.0, has_room a h.1)
  stmt_has_room (put e) h = h
  stmt_has_room (return e) h = h
  stmt_has_room halt h = omega arith
  stmt_has_room (call_only f es) h = omega (arith, h)

  pub has_room : (b : Body) → AreShort b → body_room b ≤ 255
  has_room no_stmts h = omega arith
  has_room (stmt s b) h = omega (arith, stmt_has_room s h.0, has_room b h.1)

mutual
  stmt_is_short : (s : Stmt) → stmt_room s ≤ 255 → IsShort s
  stmt_is_short (declare x e) h = h
  stmt_is_short (assign x e) h = h
  stmt_is_short (assign_element x e f) h = h
  stmt_is_short (choose e a b) h = (omega (arith, h), are_short a (omega (arith, h)), are_short b (omega (arith, h)))
  stmt_is_short (repeat e a) h = (omega (arith, h), are_short a (omega (arith, h)))
  stmt_is_short (put e) h = h
  stmt_is_short (return e) h = h
  stmt_is_short halt h = tt
  stmt_is_short (call_only f es) h = omega (arith, h)

  pub are_short : (b : Body) → body_room b ≤ 255 → AreShort b
  are_short no_stmts h = tt
  are_short (stmt s b) h = (stmt_is_short s (omega (arith, h)), are_short b (omega (arith, h)))
