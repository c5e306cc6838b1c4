use Rattle.std.proofs.Common.{◌+◌, subst}
use Rattle.oat_langrun.specs.Fitting.{UseKeeps}
use Rattle.oat_langrun.specs.Running.{tree_of}
use Rattle.oat_langrun.specs.Steps.{body_size}
use Rattle.oat_langrun.proofs.Resuming.{can_use, is_called, use_keeps}
use Rattle.oat_langrun.proofs.interpreter.Interpreter.finish.Goals as goal

pub ret-requires-clause-called : goal.ret-requires-clause-called
ret-requires-clause-called c =
    let m = c.args.self.now in
    let h = c.requires.ready in
    is_called m h (subst (UseKeeps (tree_of m) h.good.stands.its (body_size h.good.stands.its.body + 1) (0 + m.running.place)) c.in-Returns.is (use_keeps m h c.args.step c.requires.there))

pub use_value-requires : goal.use_value-requires
use_value-requires c =
    let m = c.args.self.now in
    let h = c.requires.ready in
    record { words = h.words; allows = can_use m h c.args.step.use_of (use_keeps m h c.args.step c.requires.there) c.in_default.not-Returns; left = c.requires.left }

pub returns-in_default : goal.returns-in_default
returns-in_default c = c.use_value.ensures _
