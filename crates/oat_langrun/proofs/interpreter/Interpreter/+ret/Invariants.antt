use Rattle.std.proofs.Common.{length}
use Rattle.oat_langrun.proofs.interpreter.Interpreter.+ret.Given as goal

abbrev pub decreases-ret : goal.decreases-ret
decreases-ret l = length l.self.now.callers
