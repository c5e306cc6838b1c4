use Rattle.std.proofs.Common.{◌≡◌, length}
use Rattle.oat_grammar.specs.Machine.{settled}
use Rattle.oat_tree.specs.Seen.{seen_expr}
use Rattle.oat_parse.specs.SeenOpened.{pending_of}
use Rattle.oat_parse.proofs.opened.Opened.settle.Given as goal

abbrev pub invariant-loop-alloc : goal.invariant-loop-alloc
invariant-loop-alloc l = settled l.fn.level (pending_of l.fn.self) (seen_expr l.fn.operand) ≡ settled l.level (pending_of l.self) (seen_expr l.value)

abbrev pub decreases-loop-alloc : goal.decreases-loop-alloc
decreases-loop-alloc l = length l.self
