use Rattle.std.proofs.Common.{Some, ap, ◌∙◌, arith}
use Rattle.oat_langrun.proofs.Resuming.{resumed_ready, resumed_called, resumed_uses, resumed_less, returned_on, returned_used}
use Rattle.oat_langrun.proofs.interpreter.Interpreter.+ret.Goals as goal

pub ret-requires : goal.ret-requires
ret-requires t c =
    let old = c.args.self.now in
    let new = c.resume.new.self in
    let back = c.resume.ensures in
    let is = c.in-Some.is ∙ ap Some c.in-Returns.is in
    let less = resumed_less old c.args.value c.resume.result new c.requires.ready back in (
      omega (arith, less, c.decreases),
      (resumed_ready old c.args.value c.resume.result new c.requires.ready back, (resumed_called old c.args.value c.resume.result new c.requires.ready back is, omega (arith, c.requires.left, back.left))),
    )

pub use_value-requires : goal.use_value-requires
use_value-requires t c =
    let old = c.args.self.now in
    let new = c.resume.new.self in
    let back = c.resume.ensures in
    record {
      words = (resumed_ready old c.args.value c.resume.result new c.requires.ready back).words;
      allows = resumed_uses old c.args.value c.resume.result new c.requires.ready back c.in-Some.use_of c.in-Some.is c.in_default-use_of.not-Returns;
      left = omega (arith, c.requires.left, back.left);
    }

pub returns-in-Returns : goal.returns-in-Returns
returns-in-Returns t c =
    returned_on c.args.self.now c.args.value c.resume.result c.resume.new.self c.requires.ready c.resume.ensures c.ret.new.self (c.in-Some.is ∙ ap Some c.in-Returns.is) c.ret.ensures

pub returns-in_default-use_of : goal.returns-in_default-use_of
returns-in_default-use_of t c =
    returned_used c.args.self.now c.args.value c.resume.result c.resume.new.self c.requires.ready c.resume.ensures c.in-Some.use_of c.use_value.new.self c.in-Some.is c.use_value.ensures
