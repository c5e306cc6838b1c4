-- What each tree keeps that a text was read as: names name what their places want, calls have as many arguments as parameters, and numbers are in their ranges.
use Rattle.std.specs.Prelude.{◌≡◌, ◌<◌, ◌≤◌, ◌⊎◌, ◌^◌, ◌+◌, ℕ, ℤ, pos, negsuc, Bool, true, false, length, codes, slice_get, All, Some}
use Rattle.std.specs.Str.{bytes_eq}
use Rattle.std.specs.List.{sum_by, list_any, IsDistinct}
use Rattle.oat_ir.specs.declared.func.Role.{Role}
use Rattle.oat_ir.specs.declared.func.Role.TheVariants.{Plain, Operation, Main}
use Rattle.oat_ir.specs.declared.program.GlobalItem.{GlobalItem}
use Rattle.oat_ir.specs.declared.program.GlobalItem.TheVariants.{Scalar, FnScalar, Array, CriticalArray}
use Rattle.oat_ir.specs.Distinct.{are_one_operation}
use Rattle.oat_check.specs.Rules.{is_array, is_main_role, is_operation_role}
use Rattle.oat_check.specs.Globals.{size_in_words}
use Rattle.oat_tree.specs.Syntax.{Word, Expr, number, name, element, call, input, negative, binary, Exprs, no_exprs, expr, Stmt, declare, assign, assign_element, choose, repeat, put, return, halt, call_only, Body, no_stmts, stmt, Function, Tree}
use Rattle.oat_tree.specs.Scopes.{is_in, number_of, scope_of, function_locals, functions_of, globals_of, item_names}
use Rattle.oat_tree.specs.Sizes.{exprs_count, body_room, tree_size}

-- ---- what a name names

abbrev pub is_number : GlobalItem → Bool
is_number (Scalar label start critical) = true
is_number _ = false

-- the global of this name is one
pub record NamesGlobal (tree : Tree) (f : Function) (test : GlobalItem → Bool) (x : Word) : Type 0 where
  pub item : GlobalItem
  pub is : slice_get (globals_of tree) (number_of (scope_of tree f).globals x) ≡ Some item
  pub kind : test item ≡ true

-- a local, or a scalar
abbrev pub NamesNumber : Tree → Function → Word → Type 0
NamesNumber tree f x = (is_in (function_locals f) x ≡ true) ⊎ NamesGlobal tree f is_number x

-- a function that may be called here, with so many arguments
pub record NamesFunction (tree : Tree) (f : Function) (g : Word) (count : ℕ) : Type 0 where
  pub callee : Function
  pub is : slice_get (functions_of tree) (number_of (scope_of tree f).funcs g) ≡ Some callee
  pub no_main : is_main_role callee.role ≡ false
  pub plain : (is_operation_role callee.role ≡ false) ⊎ (is_main_role f.role ≡ true)
  pub arity : count ≡ length callee.params

-- ---- names and calls

abbrev mutual
  pub ExprKeeps : Expr → Tree → Function → Type 0
  ExprKeeps (number value) tree f = value < 2 ^ 63
  ExprKeeps (name x) tree f = NamesNumber tree f x
  ExprKeeps (element a e) tree f = NamesGlobal tree f is_array a × ExprKeeps e tree f
  ExprKeeps (call g es) tree f = NamesFunction tree f g (exprs_count es) × ExprsKeep es tree f
  ExprKeeps input tree f = Unit {0}
  ExprKeeps (negative e) tree f = ExprKeeps e tree f
  ExprKeeps (binary op a b) tree f = ExprKeeps a tree f × ExprKeeps b tree f

  pub ExprsKeep : Exprs → Tree → Function → Type 0
  ExprsKeep no_exprs tree f = Unit {0}
  ExprsKeep (expr e es) tree f = ExprKeeps e tree f × ExprsKeep es tree f

abbrev mutual
  pub StmtKeeps : Stmt → Tree → Function → Type 0
  StmtKeeps (declare x e) tree f = NamesNumber tree f x × ExprKeeps e tree f
  StmtKeeps (assign x e) tree f = NamesNumber tree f x × ExprKeeps e tree f
  StmtKeeps (assign_element a e v) tree f = NamesGlobal tree f is_array a × ExprKeeps e tree f × ExprKeeps v tree f
  StmtKeeps (choose e a b) tree f = ExprKeeps e tree f × BodyKeeps a tree f × BodyKeeps b tree f
  StmtKeeps (repeat e a) tree f = ExprKeeps e tree f × BodyKeeps a tree f
  StmtKeeps (put e) tree f = ExprKeeps e tree f
  StmtKeeps (return e) tree f = (is_main_role f.role ≡ false) × ExprKeeps e tree f
  StmtKeeps halt tree f = Unit {0}
  StmtKeeps (call_only g es) tree f = NamesFunction tree f g (exprs_count es) × ExprsKeep es tree f

  pub BodyKeeps : Body → Tree → Function → Type 0
  BodyKeeps no_stmts tree f = Unit {0}
  BodyKeeps (stmt s b) tree f = StmtKeeps s tree f × BodyKeeps b tree f

-- ---- items

-- a global of the language: its start is a number of 64 bits with a sign, its length in its range
abbrev pub IsStart : ℤ → Type 0
IsStart (pos n) = n < 2 ^ 63
IsStart (negsuc n) = n < 2 ^ 63

abbrev pub IsLangGlobal : GlobalItem → Type 0
IsLangGlobal (Scalar label start critical) = IsStart start
IsLangGlobal (FnScalar label params) = ⊥
IsLangGlobal (Array label len) = (1 ≤ len) × (len ≤ 65536)
IsLangGlobal (CriticalArray label len) = (1 ≤ len) × (len ≤ 4096)

abbrev pub RoleIs : Role → Function → Type 0
RoleIs Plain f = Unit {0}
RoleIs (Operation id) f = (1 ≤ id) × (id ≤ 65535)
RoleIs Main f = (f.name ≡ codes "main") × (length f.params ≡ 0)

abbrev pub IsShortName : Word → Type 0
IsShortName x = length x ≤ 30

pub record IsFunction (tree : Tree) (f : Function) : Type 0 where
  pub role : RoleIs f.role f
  pub few : length f.params ≤ 4
  pub distinct : IsDistinct bytes_eq (function_locals f)
  -- no local has the name of an item
  pub apart : All (λ x. is_in (item_names tree) x ≡ false) (function_locals f)
  pub names : All IsShortName (function_locals f)
  -- no statement has more nodes in its own expressions
  pub nodes : body_room f.body ≤ 255
  -- the locals, one that is 0, and the operands
  pub room : length (function_locals f) + 1 + body_room f.body ≤ 255
  pub body : BodyKeeps f.body tree f

abbrev pub one_operation : Function → Function → Bool
one_operation f g = are_one_operation f.role g.role

-- what is known of every tree that some text was read as
pub record IsLang (tree : Tree) : Type 0 where
  pub globals : All IsLangGlobal (globals_of tree)
  pub functions : (i : ℕ) (f : Function) → slice_get (functions_of tree) i ≡ Some f → IsFunction tree f
  pub distinct : IsDistinct bytes_eq (item_names tree)
  pub names : All IsShortName (item_names tree)
  pub operations : IsDistinct one_operation (functions_of tree)
  pub main : list_any (λ f. is_main_role f.role) (functions_of tree) ≡ true
  pub words : sum_by size_in_words (globals_of tree) ≤ 65536
  pub size : tree_size tree ≤ 1048576
