use Rattle.oat_attest.proofs.Clashing.{clash_of_unequal_returns}
use Rattle.oat_attest.proofs.laws.clash_of_unequal_returns.Goals as goal

pub returns : goal.returns
returns c = clash_of_unequal_returns
