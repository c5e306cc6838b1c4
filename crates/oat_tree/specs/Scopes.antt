-- What the names of a text name: locals of a function, globals, and functions, each by its number.
use Rattle.std.specs.Prelude.{ℕ, suc, Bool, if◌then◌else◌, List, [], ◌∷◌, ◌++◌, map, Option, Some, None}
use Rattle.std.specs.Str.{bytes_eq}
use Rattle.std.specs.List.{list_any, filter_map}
use Rattle.oat_ir.specs.declared.program.GlobalItem.{GlobalItem}
use Rattle.oat_ir.specs.Distinct.{global_name}
use Rattle.oat_tree.specs.Syntax.{Word, Stmt, declare, assign, assign_element, choose, repeat, put, return, halt, call_only, Body, no_stmts, stmt, Function, Item, global, function, Tree}

pub record Scope : Type 0 where
  pub locals : List Word
  pub globals : List Word
  pub funcs : List Word

abbrev pub is_in : List Word → Word → Bool
is_in xs x = list_any (bytes_eq x) xs

-- where a name stands in a list
abbrev pub number_of : List Word → Word → ℕ
number_of [] x = 0
number_of (y ∷ ys) x = if bytes_eq x y then 0 else suc (number_of ys x)

-- the names that a body declares, in order
abbrev mutual
  pub stmt_vars : Stmt → List Word
  stmt_vars (declare x e) = x ∷ []
  stmt_vars (assign x e) = []
  stmt_vars (assign_element a e f) = []
  stmt_vars (choose e a b) = body_vars a ++ body_vars b
  stmt_vars (repeat e a) = body_vars a
  stmt_vars (put e) = []
  stmt_vars (return e) = []
  stmt_vars halt = []
  stmt_vars (call_only f es) = []

  pub body_vars : Body → List Word
  body_vars no_stmts = []
  body_vars (stmt s b) = stmt_vars s ++ body_vars b

-- the parameters first
abbrev pub function_locals : Function → List Word
function_locals f = f.params ++ body_vars f.body

-- ---- the whole text

abbrev pub global_in : Item → Option GlobalItem
global_in (global item) = Some item
global_in (function f) = None

abbrev pub function_in : Item → Option Function
function_in (global item) = None
function_in (function f) = Some f

abbrev pub item_name : Item → Word
item_name (global item) = global_name item
item_name (function f) = f.name

abbrev pub globals_of : Tree → List GlobalItem
globals_of tree = filter_map global_in tree

abbrev pub functions_of : Tree → List Function
functions_of tree = filter_map function_in tree

abbrev pub item_names : Tree → List Word
item_names tree = map item_name tree

abbrev pub scope_of : Tree → Function → Scope
scope_of tree f = record {
  locals = function_locals f;
  globals = map global_name (globals_of tree);
  funcs = map (λ g. g.name) (functions_of tree);
}
