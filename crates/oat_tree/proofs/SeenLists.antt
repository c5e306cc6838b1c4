-- The elements of a vector within the tree: their trees are those of the vector's items.
use Rattle.std.proofs.Common.{◌≡◌, List, map, Vec, Global, refl, ap, ◌∙◌}
use mathlib.Core.Former.{Count}
use Rattle.oat_tree.specs.Syntax as tree
use Rattle.oat_tree.specs.Syntax.{Word, Exprs, expr, exprs_of_list, Body, stmt, body_of_list}
use Rattle.oat_tree.specs.Seen.{seen_expr, seen_exprs, seen_stmt, seen_body, seen_stmts}
use Rattle.oat_tree.specs.declared.expr.Expr.{Expr, Call, Call', Row_of-Expr, end_of-Expr, more_of-Expr, items-the_row-Expr, items_hidden-the_row-Expr-0}
use Rattle.oat_tree.specs.declared.stmt.Stmt.{Stmt, If, While, If', While', Row_of-Stmt, end_of-Stmt, more_of-Stmt, items-the_row-Stmt, items_hidden-the_row-Stmt-0}

pub exprs_seen : (n : _) (k : Row_of-Expr n) → seen_exprs k ≡ exprs_of_list (map seen_expr (items-the_row-Expr n k))
exprs_seen _ end_of-Expr = refl
exprs_seen _ (more_of-Expr e rest) = ap (expr (seen_expr e)) (exprs_seen _ rest)

pub body_seen : (n : _) (k : Row_of-Stmt n) → seen_body k ≡ body_of_list (map seen_stmt (items-the_row-Stmt n k))
body_seen _ end_of-Stmt = refl
body_seen _ (more_of-Stmt x rest) = ap (stmt (seen_stmt x)) (body_seen _ rest)

-- ---- of what holds a vector

abbrev args_row : Expr → (n : Count) × Row_of-Expr n
args_row (Call' f shape es) = (_, es)
args_row _ = (_, end_of-Expr)

pub call_seen : (f : Word) (es : Vec Expr Global) → seen_expr (Call f es) ≡ tree.call f (exprs_of_list (map seen_expr es.items))
call_seen f es =
    let row = args_row (Call f es) in
    ap (tree.call f) (exprs_seen row.0 row.1 ∙ ap (λ (l : List Expr). exprs_of_list (map seen_expr l)) (items_hidden-the_row-Expr-0 es))

abbrev body_row : Stmt → (n : Count) × Row_of-Stmt n
body_row (If' e shape a more b) = (_, a)
body_row (While' e shape a) = (_, a)
body_row _ = (_, end_of-Stmt)

abbrev else_row : Stmt → (n : Count) × Row_of-Stmt n
else_row (If' e shape a more b) = (_, b)
else_row _ = (_, end_of-Stmt)

shown : (es : Vec Stmt Global) (n : Count) (row : Row_of-Stmt n) → items-the_row-Stmt n row ≡ es.items → seen_body row ≡ seen_stmts es.items
shown es n row same = body_seen n row ∙ ap seen_stmts same

pub if_seen : (e : Expr) (a b : Vec Stmt Global) → seen_stmt (If e a b) ≡ tree.choose (seen_expr e) (seen_stmts a.items) (seen_stmts b.items)
if_seen e a b =
    let one = body_row (If e a b) in
    let two = else_row (If e a b) in
    ap (λ (c : Body). tree.choose (seen_expr e) c (seen_body two.1)) (shown a one.0 one.1 (items_hidden-the_row-Stmt-0 a))
    ∙ ap (tree.choose (seen_expr e) (seen_stmts a.items)) (shown b two.0 two.1 (items_hidden-the_row-Stmt-0 b))

pub while_seen : (e : Expr) (a : Vec Stmt Global) → seen_stmt (While e a) ≡ tree.repeat (seen_expr e) (seen_stmts a.items)
while_seen e a = let one = body_row (While e a) in ap (tree.repeat (seen_expr e)) (shown a one.0 one.1 (items_hidden-the_row-Stmt-0 a))
