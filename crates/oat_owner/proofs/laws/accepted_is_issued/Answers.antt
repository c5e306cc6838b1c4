use Rattle.oat_owner.proofs.Exchanging.{accepted_is_issued}
use Rattle.oat_owner.proofs.laws.accepted_is_issued.Goals as goal

pub returns : goal.returns
returns c = accepted_is_issued
