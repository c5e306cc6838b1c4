use Rattle.oat_check.proofs.Checking.{accepted_exactly}
use Rattle.oat_check.proofs.laws.accepted_exactly.Goals as goal

pub returns : goal.returns
returns c = accepted_exactly
