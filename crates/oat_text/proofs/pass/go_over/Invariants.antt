use Rattle.std.proofs.Common.{length}
use Rattle.oat_text.proofs.Passing.{Goes}
use Rattle.oat_text.proofs.pass.go_over.Given as goal

abbrev pub invariant-lines : goal.invariant-lines
invariant-lines g l = Goes g.P.Pass.takes l.fn.pass l.text l.rest l.number l.pass

abbrev pub decreases-lines : goal.decreases-lines
decreases-lines g l = length l.rest
