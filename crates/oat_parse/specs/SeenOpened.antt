-- What the machine has open, where the program has these.
use Rattle.std.specs.Prelude.{ℕ, Bool, true, false, nat_le, List, [], ◌∷◌, map}
use Rattle.oat_parse.specs.declared.opened.Open.{Open}
use Rattle.oat_parse.specs.declared.opened.Open.TheVariants.{Minus, Left, Brackets, Index, Argument}
use Rattle.oat_tree.specs.Syntax as tree
use Rattle.oat_tree.specs.Levels.{level}
use Rattle.oat_tree.specs.Seen.{seen_expr}
use Rattle.oat_grammar.specs.Machine.{Pending, bottom, minus_before, left_of, in_brackets, index_of, argument_of, Operand}

abbrev pub pending_of : List Open → Pending
pending_of [] = bottom
pending_of (Minus ∷ os) = minus_before (pending_of os)
pending_of (Left op a ∷ os) = left_of op (seen_expr a) (pending_of os)
pending_of (Brackets ∷ os) = in_brackets (pending_of os)
pending_of (Index x ∷ os) = index_of x (pending_of os)
pending_of (Argument f es ∷ os) = argument_of f (map seen_expr es.items) (pending_of os)

-- the innermost of them binds an operand before something of the level does
abbrev pub binds_at : ℕ → List Open → Bool
binds_at l (Minus ∷ os) = true
binds_at l (Left op a ∷ os) = nat_le l (level op)
binds_at l _ = false

abbrev pub unbound : tree.Expr → Pending → Operand
unbound e p = record { value = e; pending = p }
