-- The tree for which a tree of the program's types stands.
use Rattle.std.specs.Prelude.{List, map}
use Rattle.oat_tree.specs.Syntax as tree
use Rattle.oat_tree.specs.Syntax.{Exprs, no_exprs, expr, Body, no_stmts, stmt, body_of_list, Tree}
use Rattle.oat_tree.specs.declared.expr.Expr.{Expr, Number, Name, Element', Call', In, Negative', Binary', Row_of-Expr, end_of-Expr, more_of-Expr}
use Rattle.oat_tree.specs.declared.stmt.Stmt as s
use Rattle.oat_tree.specs.declared.stmt.Stmt.{Stmt, Row_of-Stmt, end_of-Stmt, more_of-Stmt}
use Rattle.oat_tree.specs.declared.item.Function.{Function}
use Rattle.oat_tree.specs.declared.item.Item.{Item}
use Rattle.oat_tree.specs.declared.item.Item.TheVariants as items

abbrev mutual
  pub seen_expr : Expr → tree.Expr
  seen_expr (Number value) = tree.number value
  seen_expr (Name x) = tree.name x
  seen_expr (Element' a p e) = tree.element a (seen_expr e)
  seen_expr (Call' f shape es) = tree.call f (seen_exprs es)
  seen_expr In = tree.input
  seen_expr (Negative' p e) = tree.negative (seen_expr e)
  seen_expr (Binary' o p a q b) = tree.binary o (seen_expr a) (seen_expr b)

  pub seen_exprs : {m : _} → Row_of-Expr m → Exprs
  seen_exprs end_of-Expr = no_exprs
  seen_exprs (more_of-Expr e rest) = expr (seen_expr e) (seen_exprs rest)

abbrev mutual
  pub seen_stmt : Stmt → tree.Stmt
  seen_stmt (s.Var x e) = tree.declare x (seen_expr e)
  seen_stmt (s.Assign x e) = tree.assign x (seen_expr e)
  seen_stmt (s.Store a e f) = tree.assign_element a (seen_expr e) (seen_expr f)
  seen_stmt (s.If' e p a q b) = tree.choose (seen_expr e) (seen_body a) (seen_body b)
  seen_stmt (s.While' e p a) = tree.repeat (seen_expr e) (seen_body a)
  seen_stmt (s.Out e) = tree.put (seen_expr e)
  seen_stmt (s.Return e) = tree.return (seen_expr e)
  seen_stmt s.Halt = tree.halt
  seen_stmt (s.Call f es) = tree.call_only f (tree.exprs_of_list (map seen_expr es.items))

  pub seen_body : {m : _} → Row_of-Stmt m → Body
  seen_body end_of-Stmt = no_stmts
  seen_body (more_of-Stmt x rest) = stmt (seen_stmt x) (seen_body rest)

abbrev pub seen_stmts : List Stmt → Body
seen_stmts ss = body_of_list (map seen_stmt ss)

abbrev pub seen_function : Function → tree.Function
seen_function f = record { name = f.name; role = f.role; params = f.params.items; body = seen_stmts f.body.items }

abbrev pub seen_item : Item → tree.Item
seen_item (items.Global g) = tree.global g
seen_item (items.Function f) = tree.function (seen_function f)

abbrev pub seen_tree : List Item → Tree
seen_tree is = map seen_item is
