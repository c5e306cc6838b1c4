-- The steps of a body, in the order of the text: a statement is begun, a node is evaluated behind its operands, the test of a `while` is decided, and the end of the body is reached. Places count them from 0.
use Rattle.std.specs.Prelude.{ℕ, ◌+◌, if◌then◌else◌, List, [], ◌∷◌, ◌++◌, length, map}
use Rattle.oat_ir.specs.declared.func.Role.{Role}
use Rattle.oat_ir.specs.declared.func.Role.TheVariants.{Main}
use Rattle.oat_ir.specs.declared.program.GlobalItem.{GlobalItem}
use Rattle.oat_tree.specs.Scopes.{Scope, is_in, number_of, functions_of, globals_of, scope_of, function_locals}
use Rattle.oat_tree.specs.Sizes.{expr_size, exprs_size, exprs_count}
use Rattle.oat_tree.specs.Syntax.{Word, Expr, number, name, element, call, input, negative, binary, Exprs, no_exprs, expr, Stmt, declare, assign, assign_element, choose, repeat, put, return, halt, call_only, Body, no_stmts, stmt, Function, Tree}
use Rattle.oat_langrun.specs.declared.step.Act.{Act}
use Rattle.oat_langrun.specs.declared.step.Act.TheVariants.{Begins, Decides, ReachesEnd, Literal, ReadsLocal, ReadsScalar, ReadsElement, Calls, TakesInput, Negates, Operates}
use Rattle.oat_langrun.specs.declared.routine.Routine.{Routine}
use Rattle.oat_langrun.specs.declared.step.Step.{Step}
use Rattle.oat_langrun.specs.declared.step.Use.{Use}
use Rattle.oat_langrun.specs.declared.step.Use.TheVariants.{Keeps, Drops, Assigns, StoresScalar, StoresElement, Puts, Chooses, Returns, Halts}

abbrev pub step : Act → ℕ → Use → Step
step act below use_of = record { act = act; open_below = below; use_of = use_of }

-- ---- names

-- a name is a local's where there is one, else a scalar's
abbrev pub reads : Scope → Word → Act
reads scope x = if is_in scope.locals x then ReadsLocal (number_of scope.locals x) else ReadsScalar (number_of scope.globals x)

abbrev pub sets : Scope → Word → ℕ → Use
sets scope x to = if is_in scope.locals x then Assigns (number_of scope.locals x) to else StoresScalar (number_of scope.globals x) to

-- ---- how many steps

abbrev mutual
  pub stmt_size : Stmt → ℕ
  stmt_size (declare x e) = 1 + expr_size e
  stmt_size (assign x e) = 1 + expr_size e
  stmt_size (assign_element a e f) = 1 + expr_size e + expr_size f
  stmt_size (choose e a b) = 1 + expr_size e + body_size a + body_size b
  stmt_size (repeat e a) = 1 + expr_size e + 1 + body_size a
  stmt_size (put e) = 1 + expr_size e
  stmt_size (return e) = 1 + expr_size e
  stmt_size halt = 1
  stmt_size (call_only f es) = 1 + exprs_size es + 1

  pub body_size : Body → ℕ
  body_size no_stmts = 0
  body_size (stmt s b) = stmt_size s + body_size b

-- ---- expressions: the steps with so many operands open below, the last one with this use

abbrev mutual
  pub expr_steps : Expr → Scope → ℕ → Use → List Step
  expr_steps (number value) scope below use_of = step (Literal value) below use_of ∷ []
  expr_steps (name x) scope below use_of = step (reads scope x) below use_of ∷ []
  expr_steps (element a e) scope below use_of = expr_steps e scope below Keeps ++ step (ReadsElement (number_of scope.globals a)) below use_of ∷ []
  expr_steps (call f es) scope below use_of = exprs_steps es scope below ++ step (Calls (number_of scope.funcs f) (exprs_count es)) below use_of ∷ []
  expr_steps input scope below use_of = step TakesInput below use_of ∷ []
  expr_steps (negative e) scope below use_of = expr_steps e scope below Keeps ++ step Negates below use_of ∷ []
  expr_steps (binary op a b) scope below use_of = expr_steps a scope below Keeps ++ (expr_steps b scope (below + 1) Keeps ++ step (Operates op) below use_of ∷ [])

  pub exprs_steps : Exprs → Scope → ℕ → List Step
  exprs_steps no_exprs scope below = []
  exprs_steps (expr e es) scope below = expr_steps e scope below Keeps ++ exprs_steps es scope (below + 1)

-- ---- statements: the steps from place `at` on, behind which it goes on at `exit`

abbrev pub begun : Step
begun = step Begins 0 Keeps

-- a body is entered where it has a statement, else passed
abbrev pub entry : Body → ℕ → ℕ → ℕ
entry no_stmts at exit = exit
entry (stmt s b) at exit = at

abbrev mutual
  pub stmt_steps : Stmt → Scope → ℕ → ℕ → List Step
  stmt_steps (declare x e) scope at exit = begun ∷ expr_steps e scope 0 (sets scope x exit)
  stmt_steps (assign x e) scope at exit = begun ∷ expr_steps e scope 0 (sets scope x exit)
  stmt_steps (assign_element a e f) scope at exit = begun ∷ (expr_steps e scope 0 Keeps ++ expr_steps f scope 1 (StoresElement (number_of scope.globals a) exit))
  stmt_steps (choose e a b) scope at exit =
      begun
      ∷ (expr_steps e scope 0 (Chooses (entry a (at + 1 + expr_size e) exit) (entry b (at + 1 + expr_size e + body_size a) exit))
      ++ (body_steps a scope (at + 1 + expr_size e) exit ++ body_steps b scope (at + 1 + expr_size e + body_size a) exit))
  stmt_steps (repeat e a) scope at exit =
      begun
      ∷ (expr_steps e scope 0 Keeps
      ++ step Decides 0 (Chooses (entry a (at + 1 + expr_size e + 1) (at + 1)) exit)
      ∷ body_steps a scope (at + 1 + expr_size e + 1) (at + 1))
  stmt_steps (put e) scope at exit = begun ∷ expr_steps e scope 0 (Puts exit)
  stmt_steps (return e) scope at exit = begun ∷ expr_steps e scope 0 Returns
  stmt_steps halt scope at exit = step Begins 0 Halts ∷ []
  stmt_steps (call_only f es) scope at exit = begun ∷ (exprs_steps es scope 0 ++ step (Calls (number_of scope.funcs f) (exprs_count es)) 0 (Drops exit) ∷ [])

  pub body_steps : Body → Scope → ℕ → ℕ → List Step
  body_steps no_stmts scope at exit = []
  body_steps (stmt s b) scope at exit = stmt_steps s scope at (entry b (at + stmt_size s) exit) ++ body_steps b scope (at + stmt_size s) exit

-- ---- functions

-- a function's end returns 0, and main's halts
abbrev pub end_use : Role → Use
end_use Main = Halts
end_use _ = Returns

abbrev pub function_steps : Scope → Role → Body → List Step
function_steps scope role body = body_steps body scope 0 (body_size body) ++ step ReachesEnd 0 (end_use role) ∷ []

-- ---- the whole text

pub record Routines : Type 0 where
  pub globals : List GlobalItem
  pub routines : List Routine

abbrev pub routine_of : Tree → Function → Routine
routine_of tree f = record { role = f.role; locals = length (function_locals f); steps = function_steps (scope_of tree f) f.role f.body }

abbrev pub routines_of : Tree → Routines
routines_of tree = record { globals = globals_of tree; routines = map (routine_of tree) (functions_of tree) }
