use Rattle.oat_case.proofs.WritesMade.{can_be_made}
use Rattle.oat_case.proofs.laws.writes_can_be_made.Goals as goal

pub returns : goal.returns
returns c = can_be_made
