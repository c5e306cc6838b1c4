-- The syntax tree of a text of the structured language (docs/FORMATS.md, "The structured language").
use Rattle.std.specs.Prelude.{ℕ, List, [], ◌∷◌}
use Rattle.oat_ir.specs.declared.func.Role.{Role}
use Rattle.oat_ir.specs.declared.program.GlobalItem.{GlobalItem}
use Rattle.oat_tree.specs.declared.operator.Operator.{Operator}

-- the bytes of a name
abbrev pub Word : Type 0
Word = List ℕ

mutual
  pub data Expr : Type 0 where
    number : (value : ℕ) → Expr
    -- a local or a scalar
    name : Word → Expr
    element : Word → Expr → Expr
    call : Word → Exprs → Expr
    input : Expr
    negative : Expr → Expr
    binary : Operator → Expr → Expr → Expr

  pub data Exprs : Type 0 where
    no_exprs : Exprs
    expr : Expr → Exprs → Exprs

mutual
  pub data Stmt : Type 0 where
    -- var x = e, where x belongs to the whole function
    declare : Word → Expr → Stmt
    assign : Word → Expr → Stmt
    assign_element : Word → Expr → Expr → Stmt
    -- without `else` the second body is empty
    choose : Expr → Body → Body → Stmt
    repeat : Expr → Body → Stmt
    put : Expr → Stmt
    return : Expr → Stmt
    halt : Stmt
    call_only : Word → Exprs → Stmt

  pub data Body : Type 0 where
    no_stmts : Body
    stmt : Stmt → Body → Body

-- a function, an operation, or main
pub record Function : Type 0 where
  pub name : Word
  pub role : Role
  pub params : List Word
  pub body : Body

-- A global of the text is one of the program types: a scalar, an array, or a critical one of these.
pub data Item : Type 0 where
  global : GlobalItem → Item
  function : Function → Item

abbrev pub Tree : Type 0
Tree = List Item

-- ---- the same from lists

abbrev pub exprs_of_list : List Expr → Exprs
exprs_of_list [] = no_exprs
exprs_of_list (e ∷ es) = expr e (exprs_of_list es)

abbrev pub body_of_list : List Stmt → Body
body_of_list [] = no_stmts
body_of_list (s ∷ ss) = stmt s (body_of_list ss)
