use Rattle.std.proofs.lemmas.Result.{IfOk-weaker}
use Rattle.oat_feed.proofs.judging.judge.Goals as goal

pub returns-in-None : goal.returns-in-None
returns-in-None c = IfOk-weaker c.replay.result _ _ (λ v tells. record { verdict = tells.verdict; right = c.in-None.ensures tells.verdict tells.right; told = tells.told }) c.replay.ensures
