use Rattle.std.proofs.Common.{length}
use Rattle.oat_policy.proofs.Loop.{Reads}
use Rattle.oat_policy.proofs.reading.read_policy.Given as goal

abbrev pub invariant-lines : goal.invariant-lines
invariant-lines l = Reads l.text l.rest l.number l.rules.items

abbrev pub decreases-lines : goal.decreases-lines
decreases-lines l = length l.rest
