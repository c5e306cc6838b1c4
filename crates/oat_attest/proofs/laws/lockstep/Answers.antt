use Rattle.oat_attest.proofs.Joining.{lockstep}
use Rattle.oat_attest.proofs.laws.lockstep.Goals as goal

pub returns : goal.returns
returns c = lockstep
