use Rattle.oat_owner.proofs.Exchanging.{accepted_once}
use Rattle.oat_owner.proofs.laws.accepted_once.Goals as goal

pub returns : goal.returns
returns c = accepted_once
