use Rattle.oat_owner.proofs.Exchanging.{accepted_by_verdict}
use Rattle.oat_owner.proofs.laws.accepted_by_verdict.Goals as goal

pub returns : goal.returns
returns c = accepted_by_verdict
