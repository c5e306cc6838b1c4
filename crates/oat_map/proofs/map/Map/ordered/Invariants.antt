use Rattle.oat_map.proofs.RowLemmas.{RisesBelow}
use Rattle.oat_map.proofs.map.Map.ordered.Given as goal

abbrev pub invariant-loop-i : goal.invariant-loop-i
invariant-loop-i l = RisesBelow l.rows l.i
