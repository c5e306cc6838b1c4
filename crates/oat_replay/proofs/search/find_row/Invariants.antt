use Rattle.std.proofs.Common.{◌-◌, length}
use Rattle.oat_replay.proofs.RowSearch.{IsBetween, HasLeft}
use Rattle.oat_replay.proofs.search.find_row.Given as goal

abbrev pub invariant-loop-low : goal.invariant-loop-low
invariant-loop-low g l = IsBetween l.index l.t l.low l.high × HasLeft (length l.index) l.initial.steps l.steps (l.high - l.low)

abbrev pub decreases-loop-low : goal.decreases-loop-low
decreases-loop-low g l = l.high - l.low
