use Rattle.oat_owner.proofs.Deciding.{one_reply}
use Rattle.oat_owner.proofs.laws.one_reply.Goals as goal

pub returns : goal.returns
returns c = one_reply
