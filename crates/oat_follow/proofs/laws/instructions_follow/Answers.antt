use Rattle.oat_follow.proofs.Reaching.{thence}
use Rattle.oat_follow.proofs.laws.instructions_follow.Goals as goal

pub returns : goal.returns
returns c = thence
