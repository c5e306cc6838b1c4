-- Where the argument of a call leads.
use Rattle.std.specs.Prelude.{◌≡◌, List, map, Option, option_map}
use Rattle.oat_tree.specs.declared.expr.Expr.{Expr}
use Rattle.oat_tree.specs.Syntax as tree
use Rattle.oat_tree.specs.Seen.{seen_expr}
use Rattle.oat_grammar.specs.declared.token.Token.{Token}
use Rattle.oat_grammar.specs.Machine.{Place, argument_next}
use Rattle.oat_parse.specs.declared.operand.Argument.{Argument}
use Rattle.oat_parse.specs.declared.operand.Argument.TheVariants.{More, Last}

abbrev pub argument_place : (List tree.Expr → Place) → (List tree.Expr → Place) → Argument → Place
argument_place onward closed (More es) = onward (map seen_expr es.items)
argument_place onward closed (Last es) = closed (map seen_expr es.items)

-- behind an argument with these before it, wherever arguments are listed
abbrev pub ArguesAs : Option Argument → List Expr → Expr → Token → Type 0
ArguesAs a others e t = (onward closed : List tree.Expr → Place) → option_map (argument_place onward closed) a ≡ argument_next (map seen_expr others) onward closed (seen_expr e) t
