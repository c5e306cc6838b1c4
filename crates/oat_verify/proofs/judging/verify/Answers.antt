use Rattle.std.proofs.Common.{refl}
use Rattle.std.proofs.lemmas.Result.{IfOk-weaker}
use Rattle.oat_verify.specs.Verdict.{blob, form}
use Rattle.oat_verify.proofs.judging.verify.Goals as goal

pub returns-in-Ok : goal.returns-in-Ok
returns-in-Ok c = IfOk-weaker c.judge.result _ _ (λ v judges. blob _ _ c.in-Ok.ensures.found judges) c.judge.ensures

pub returns-in-Err : goal.returns-in-Err
returns-in-Err c = form c.in-Err.fault.offset c.in-Err.ensures.form refl
