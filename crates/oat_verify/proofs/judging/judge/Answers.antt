use Rattle.std.proofs.lemmas.Result.{IfOk-weaker}
use Rattle.oat_verify.proofs.judging.judge.Goals as goal

pub returns-in-None : goal.returns-in-None
returns-in-None c = IfOk-weaker c.replay.result _ _ c.in-None.ensures c.replay.ensures
