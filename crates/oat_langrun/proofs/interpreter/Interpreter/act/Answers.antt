use Rattle.oat_langrun.proofs.Resuming.{scalar_read}
use Rattle.oat_langrun.proofs.interpreter.Interpreter.act.Goals as goal

pub read-requires-clause-held : goal.read-requires-clause-held
read-requires-clause-held c = scalar_read c.args.self.now c.requires.ready c.args.step c.requires.there c.in-ReadsScalar.global c.in-ReadsScalar.is
