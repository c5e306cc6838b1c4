use Rattle.std.proofs.Common.{◌≡◌, drop}
use Rattle.oat_case.specs.Limits.{writes_fit}
use Rattle.oat_case.proofs.limits.are_writes_in_limits.Given as goal

abbrev pub invariant-loop-write : goal.invariant-loop-write
invariant-loop-write l = writes_fit l.least (drop l.write-index l.writes) ≡ writes_fit 0 l.writes
