use Rattle.oat_owner.proofs.Exchanging.{calls_give_replies}
use Rattle.oat_owner.proofs.laws.calls_give_replies.Goals as goal

pub returns : goal.returns
returns c = calls_give_replies
