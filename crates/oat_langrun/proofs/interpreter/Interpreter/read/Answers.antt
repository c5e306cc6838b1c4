use Rattle.std.proofs.Common.{◌∙◌}
use Rattle.oat_langrun.proofs.Giving.{read_given, value_held}
use Rattle.oat_langrun.proofs.interpreter.Interpreter.read.Goals as goal

pub returns : goal.returns
returns c =
    read_given c.args.self.now c.args.step c.args.global c.args.i c.get-value.result c.give.new.self
    (c.get-value.ensures ∙ value_held c.args.self.now c.args.global c.args.i c.requires.held) c.give.ensures
