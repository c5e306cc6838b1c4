-- A list of steps has as many as its size says.
use Rattle.std.proofs.Common.{◌≡◌, ◌+◌, ℕ, [], ◌∷◌, ◌++◌, length, arith, length-append}
use Rattle.oat_tree.specs.Scopes.{Scope, number_of}
use Rattle.oat_tree.specs.Sizes.{exprs_count, expr_size, exprs_size}
use Rattle.oat_tree.specs.Syntax.{Expr, number, name, element, call, input, negative, binary, Exprs, no_exprs, expr, Stmt, declare, assign, assign_element, choose, repeat, put, return, halt, call_only, Body, no_stmts, stmt}
use Rattle.oat_langrun.specs.Steps.{step, entry, sets, stmt_size, body_size, expr_steps, exprs_steps, stmt_steps, body_steps}
use Rattle.oat_langrun.specs.declared.step.Act.TheVariants.{Decides, Calls, ReadsElement, Negates, Operates}
use Rattle.oat_langrun.specs.declared.step.Use.{Use}
use Rattle.oat_langrun.specs.declared.step.Use.TheVariants.{Keeps, Drops, StoresElement, Chooses, Puts, Returns}

mutual
  pub expr_length : (e : Expr) (scope : Scope) (below : ℕ) (u : Use) → length (expr_steps e scope below u) ≡ expr_size e
  expr_length (number value) scope below u = omega arith
  expr_length (name x) scope below u = omega arith
  expr_length (element a e) scope below u =
      let one = expr_length e scope below Keeps in
      omega (arith, one, length-append (expr_steps e scope below Keeps) (step (ReadsElement (number_of scope.globals a)) below u ∷ []))
  expr_length (call f es) scope below u =
      let one = exprs_length es scope below in
      omega (arith, one, length-append (exprs_steps es scope below) (step (Calls (number_of scope.funcs f) (exprs_count es)) below u ∷ []))
  expr_length input scope below u = omega arith
  expr_length (negative e) scope below u =
      let one = expr_length e scope below Keeps in
      omega (arith, one, length-append (expr_steps e scope below Keeps) (step Negates below u ∷ []))
  expr_length (binary op a b) scope below u =
      let xs = expr_steps a scope below Keeps in
      let ys = expr_steps b scope (below + 1) Keeps in
      let one = expr_length a scope below Keeps in
      let two = expr_length b scope (below + 1) Keeps in
      omega (arith, one, two, length-append xs (ys ++ step (Operates op) below u ∷ []), length-append ys (step (Operates op) below u ∷ []))

  pub exprs_length : (es : Exprs) (scope : Scope) (below : ℕ) → length (exprs_steps es scope below) ≡ exprs_size es
  exprs_length no_exprs scope below = omega arith
  exprs_length (expr e es) scope below =
      let one = expr_length e scope below Keeps in
      let two = exprs_length es scope (below + 1) in
      omega (arith, one, two, length-append (expr_steps e scope below Keeps) (exprs_steps es scope (below + 1)))

mutual
  pub stmt_length : (s : Stmt) (scope : Scope) (at exit : ℕ) → length (stmt_steps s scope at exit) ≡ stmt_size s
  stmt_length (declare x e) scope at exit = let one = expr_length e scope 0 (sets scope x exit) in omega (arith, one)
  stmt_length (assign x e) scope at exit = let one = expr_length e scope 0 (sets scope x exit) in omega (arith, one)
  stmt_length (assign_element a e f) scope at exit =
      let one = expr_length e scope 0 Keeps in
      let two = expr_length f scope 1 (StoresElement (number_of scope.globals a) exit) in
      omega (arith, one, two, length-append (expr_steps e scope 0 Keeps) (expr_steps f scope 1 (StoresElement (number_of scope.globals a) exit)))
  stmt_length (choose e a b) scope at exit =
      let u = Chooses (entry a (at + 1 + expr_size e) exit) (entry b (at + 1 + expr_size e + body_size a) exit) in
      let one = expr_length e scope 0 u in
      let two = body_length a scope (at + 1 + expr_size e) exit in
      let three = body_length b scope (at + 1 + expr_size e + body_size a) exit in
      omega (
        arith,
        one,
        two,
        three,
        length-append (expr_steps e scope 0 u) (body_steps a scope (at + 1 + expr_size e) exit ++ body_steps b scope (at + 1 + expr_size e + body_size a) exit),
        length-append (body_steps a scope (at + 1 + expr_size e) exit) (body_steps b scope (at + 1 + expr_size e + body_size a) exit),
      )
  stmt_length (repeat e a) scope at exit =
      let d = step Decides 0 (Chooses (entry a (at + 1 + expr_size e + 1) (at + 1)) exit) in
      let one = expr_length e scope 0 Keeps in
      let two = body_length a scope (at + 1 + expr_size e + 1) (at + 1) in
      omega (arith, one, two, length-append (expr_steps e scope 0 Keeps) (d ∷ body_steps a scope (at + 1 + expr_size e + 1) (at + 1)))
  stmt_length (put e) scope at exit = let one = expr_length e scope 0 (Puts exit) in omega (arith, one)
  stmt_length (return e) scope at exit = let one = expr_length e scope 0 Returns in omega (arith, one)
  stmt_length halt scope at exit = omega arith
  stmt_length (call_only f es) scope at exit =
      let one = exprs_length es scope 0 in
      omega (arith, one, length-append (exprs_steps es scope 0) (step (Calls (number_of scope.funcs f) (exprs_count es)) 0 (Drops exit) ∷ []))

  pub body_length : (b : Body) (scope : Scope) (at exit : ℕ) → length (body_steps b scope at exit) ≡ body_size b
  body_length no_stmts scope at exit = omega arith
  body_length (stmt s b) scope at exit =
      let one = stmt_length s scope at (entry b (at + stmt_size s) exit) in
      let two = body_length b scope (at + stmt_size s) exit in
      omega (arith, one, two, length-append (stmt_steps s scope at (entry b (at + stmt_size s) exit)) (body_steps b scope (at + stmt_size s) exit))
