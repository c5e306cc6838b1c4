-- The place of the machine for which a place of the program stands.
use Rattle.std.specs.Prelude.{◌≡◌, option_map, ℕ, List, [], ◌∷◌, ◌++◌, map, Option, Some, None}
use Rattle.oat_ir.specs.declared.func.Role.{Role}
use Rattle.oat_tree.specs.declared.expr.Expr.{Expr}
use Rattle.oat_tree.specs.declared.stmt.Stmt.{Stmt}
use Rattle.oat_tree.specs.Syntax as tree
use Rattle.oat_tree.specs.Syntax.{Word}
use Rattle.oat_tree.specs.Seen.{seen_expr, seen_stmt, seen_stmts}
use Rattle.oat_grammar.specs.Machine as machine
use Rattle.oat_grammar.specs.Machine.{Outer, in_choice, in_else, in_loop, at_stmt, Place, inside, closes}
use Rattle.oat_parse.specs.declared.place.Use.{Use}
use Rattle.oat_parse.specs.declared.place.Use.TheVariants as uses
use Rattle.oat_parse.specs.declared.place.Inside.{Inside}
use Rattle.oat_parse.specs.declared.place.Inside.TheVariants as places
use Rattle.oat_parse.specs.declared.place.Kind.{Kind}
use Rattle.oat_parse.specs.declared.place.Kind.TheVariants as kinds
use Rattle.oat_parse.specs.declared.place.Then.{Then}
use Rattle.oat_parse.specs.declared.place.Then.TheVariants.{Within, Opens, Closes}
use Rattle.oat_parse.specs.declared.place.Move.{Move}
use Rattle.oat_parse.specs.declared.place.Heading.{Heading}
use Rattle.oat_parse.specs.declared.place.Heading.TheVariants as headings
use Rattle.oat_parse.specs.SeenOpened.{pending_of}

-- ---- in a body

abbrev pub seen_use : Use → machine.Use
seen_use (uses.Declare x) = machine.to_declare x
seen_use (uses.Assign x) = machine.to_assign x
seen_use (uses.Index x) = machine.to_index x
seen_use (uses.Store x e) = machine.to_store x (seen_expr e)
seen_use uses.Choose = machine.to_choose
seen_use uses.Repeat = machine.to_repeat
seen_use uses.Put = machine.to_put
seen_use uses.Return = machine.to_return
seen_use (uses.Call f es) = machine.to_call f (map seen_expr es.items)

abbrev pub seen_inside : Inside → machine.Inside
seen_inside places.Stmt = machine.at_stmt
seen_inside places.Var = machine.at_var
seen_inside (places.Declare x) = machine.at_declare x
seen_inside (places.Target x) = machine.at_target x
seen_inside (places.Stored x e) = machine.at_stored x (seen_expr e)
seen_inside (places.End s) = machine.at_end (seen_stmt s)
seen_inside (places.Choice e a) = machine.at_choice (seen_expr e) (seen_stmts a.items)
seen_inside (places.Else e a) = machine.at_else (seen_expr e) (seen_stmts a.items)
seen_inside (places.Operand u p) = machine.at_operand (seen_use u) (pending_of p)
seen_inside (places.Name x u p) = machine.at_name x (seen_use u) (pending_of p)
seen_inside (places.Operator e u p) = machine.at_operator (seen_expr e) (seen_use u) (pending_of p)

-- a body in a body, behind these statements
abbrev pub opened_body : Kind → List tree.Stmt → Outer → Outer
opened_body (kinds.Choice e) ss o = in_choice (seen_expr e) ss o
opened_body (kinds.Else e a) ss o = in_else (seen_expr e) (seen_stmts a.items) ss o
opened_body (kinds.Loop e) ss o = in_loop (seen_expr e) ss o

abbrev pub ended : List tree.Stmt → Option Stmt → List tree.Stmt
ended ss None = ss
ended ss (Some s) = ss ++ seen_stmt s ∷ []

abbrev pub then_place : List tree.Item → List tree.Stmt → Outer → Then → Place
then_place is ss o (Within i) = inside is ss o (seen_inside i)
then_place is ss o (Opens k) = inside is [] (opened_body k ss o) at_stmt
then_place is ss o Closes = closes is ss o

-- where a move leads from a statement
abbrev pub move_place : List tree.Item → List tree.Stmt → Outer → Move → Place
move_place is ss o m = then_place is (ended ss m.done) o m.«then»

-- a token does this at a statement of whatever body
abbrev pub MovesAs : Option Move → (List tree.Item → List tree.Stmt → Outer → Option Place) → Type 0
MovesAs m there = (is : List tree.Item) (ss : List tree.Stmt) (o : Outer) → option_map (move_place is ss o) m ≡ there is ss o

abbrev pub ThenAs : Option Then → (List tree.Item → List tree.Stmt → Outer → Option Place) → Type 0
ThenAs t there = (is : List tree.Item) (ss : List tree.Stmt) (o : Outer) → option_map (then_place is ss o) t ≡ there is ss o

-- ---- outside bodies

abbrev pub seen_heading : Heading → machine.Heading
seen_heading headings.Global = machine.at_global
seen_heading headings.Array = machine.at_array
seen_heading headings.Critical = machine.at_critical
seen_heading (headings.Equals x) = machine.at_equals x
seen_heading (headings.Square x) = machine.at_square x
seen_heading (headings.Either x) = machine.at_either x
seen_heading (headings.Start c x) = machine.at_start c x
seen_heading (headings.Minus c x) = machine.at_minus c x
seen_heading (headings.Length c x) = machine.at_length c x
seen_heading (headings.Closing c x n) = machine.at_closing c x n
seen_heading (headings.Last g) = machine.at_last g
seen_heading headings.Id = machine.at_id
seen_heading (headings.Function r) = machine.at_function r
seen_heading (headings.Open r x) = machine.at_open r x
seen_heading (headings.First r x) = machine.at_first r x
seen_heading (headings.Comma r x xs) = machine.at_comma r x xs.items
seen_heading (headings.Param r x xs) = machine.at_param r x xs.items
seen_heading (headings.Body r x xs) = machine.at_body r x xs.items
