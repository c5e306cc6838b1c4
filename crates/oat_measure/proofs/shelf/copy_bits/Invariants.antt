use Rattle.std.proofs.Common.{◌≡◌, ◌+◌, ◌-◌, ◌++◌, slice_range}
use Rattle.oat_measure.proofs.shelf.copy_bits.Given as goal

abbrev pub invariant-loop-i : goal.invariant-loop-i
invariant-loop-i l = record {
  appended : l.onto.bits ≡ l.fn.onto.bits ++ slice_range l.bits.bits l.fn.part.from l.i;
  spare : l.onto.spare + (l.i - l.fn.part.from) ≡ l.fn.onto.spare;
}
