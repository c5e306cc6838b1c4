use Rattle.oat_langrun.proofs.Giving.{given, taken_ready, taken_there}
use Rattle.oat_langrun.proofs.interpreter.Interpreter.give.Goals as goal

pub finish-requires-clause-ready : goal.finish-requires-clause-ready
finish-requires-clause-ready c = taken_ready c.args.self.now c.take.new.self c.args.step c.args.value c.take.ensures c.requires.ready

pub finish-requires-clause-there : goal.finish-requires-clause-there
finish-requires-clause-there c = taken_there c.args.self.now c.take.new.self c.args.step c.args.value c.take.ensures c.requires.there

pub returns : goal.returns
returns c = given c.args.self.now c.take.new.self c.args.step c.args.value c.take.ensures c.finish.new.self c.finish.ensures
