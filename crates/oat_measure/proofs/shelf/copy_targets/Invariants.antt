use Rattle.std.proofs.Common.{◌≡◌, ◌++◌, take, vec_capacity}
use Rattle.oat_measure.proofs.shelf.copy_targets.Given as goal

abbrev pub invariant-loop-target : goal.invariant-loop-target
invariant-loop-target l = record {
  appended : l.onto.items ≡ l.fn.onto.items ++ take l.target-index l.targets;
  capacity : vec_capacity l.onto ≡ vec_capacity l.fn.onto;
}
