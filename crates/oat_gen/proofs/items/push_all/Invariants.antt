use Rattle.std.proofs.Common.{◌≡◌, ◌++◌, drop}
use Rattle.oat_gen.proofs.items.push_all.Given as goal

abbrev pub invariant-loop-item : goal.invariant-loop-item
invariant-loop-item l = l.out.items ++ drop l.item-index l.items ≡ l.initial.out.items ++ l.items
