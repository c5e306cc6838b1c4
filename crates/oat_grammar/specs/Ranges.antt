-- What names and numbers of a tree keep that was read: names are free ones, and numbers are in the ranges of their places.
use Rattle.std.specs.Prelude.{◌≡◌, ℕ, ◌<◌, ◌≤◌, ◌^◌, true, List, [], ◌∷◌, length, ℤ, pos, negsuc, codes}
use Rattle.oat_ir.specs.declared.func.Role.{Role}
use Rattle.oat_ir.specs.declared.func.Role.TheVariants.{Plain, Operation, Main}
use Rattle.oat_ir.specs.declared.program.GlobalItem.{GlobalItem}
use Rattle.oat_ir.specs.declared.program.GlobalItem.TheVariants.{Scalar, FnScalar, Array, CriticalArray}
use Rattle.oat_tree.specs.Syntax.{Word, Expr, number, name, element, call, input, negative, binary, Exprs, no_exprs, expr, Stmt, declare, assign, assign_element, choose, repeat, put, return, halt, call_only, Body, no_stmts, stmt, Item, global, function}
use Rattle.oat_grammar.specs.Words.{is_free_name}

abbrev pub Each : {X : Type 0} → (X → Type 0) → List X → Type 0
Each P [] = Unit {0}
Each P (x ∷ xs) = P x × Each P xs

abbrev pub IsFreeName : Word → Type 0
IsFreeName x = is_free_name x ≡ true

abbrev mutual
  pub ExprFits : Expr → Type 0
  ExprFits (number n) = n < 2 ^ 63
  ExprFits (name x) = IsFreeName x
  ExprFits (element a e) = IsFreeName a × ExprFits e
  ExprFits (call f es) = IsFreeName f × ExprsFit es
  ExprFits input = Unit {0}
  ExprFits (negative e) = ExprFits e
  ExprFits (binary op a b) = ExprFits a × ExprFits b

  pub ExprsFit : Exprs → Type 0
  ExprsFit no_exprs = Unit {0}
  ExprsFit (expr e es) = ExprFits e × ExprsFit es

abbrev mutual
  pub StmtFits : Stmt → Type 0
  StmtFits (declare x e) = IsFreeName x × ExprFits e
  StmtFits (assign x e) = IsFreeName x × ExprFits e
  StmtFits (assign_element x e f) = IsFreeName x × ExprFits e × ExprFits f
  StmtFits (choose e a b) = ExprFits e × BodyFits a × BodyFits b
  StmtFits (repeat e a) = ExprFits e × BodyFits a
  StmtFits (put e) = ExprFits e
  StmtFits (return e) = ExprFits e
  StmtFits halt = Unit {0}
  StmtFits (call_only f es) = IsFreeName f × ExprsFit es

  pub BodyFits : Body → Type 0
  BodyFits no_stmts = Unit {0}
  BodyFits (stmt s b) = StmtFits s × BodyFits b

-- 64 bits with a sign
abbrev pub StartFits : ℤ → Type 0
StartFits (pos n) = n < 2 ^ 63
StartFits (negsuc n) = n < 2 ^ 63

-- no text has the reference of a function
abbrev pub GlobalFits : GlobalItem → Type 0
GlobalFits (Scalar x start critical) = IsFreeName x × StartFits start
GlobalFits (FnScalar x params) = ⊥
GlobalFits (Array x n) = IsFreeName x × (1 ≤ n) × (n ≤ 65536)
GlobalFits (CriticalArray x n) = IsFreeName x × (1 ≤ n) × (n ≤ 4096)

-- a name with at most four parameters
pub record ParamsFit (x : Word) (xs : List Word) : Type 0 where
  pub name : IsFreeName x
  pub params : Each IsFreeName xs
  pub few : length xs ≤ 4

abbrev pub HeadFits : Role → Word → List Word → Type 0
HeadFits Plain x params = ParamsFit x params
HeadFits (Operation n) x params = (1 ≤ n) × (n ≤ 65535) × ParamsFit x params
HeadFits Main x params = (x ≡ codes "main") × (params ≡ [])

abbrev pub ItemFits : Item → Type 0
ItemFits (global g) = GlobalFits g
ItemFits (function f) = HeadFits f.role f.name f.params × BodyFits f.body

abbrev pub TreeFits : List Item → Type 0
TreeFits tree = Each ItemFits tree
