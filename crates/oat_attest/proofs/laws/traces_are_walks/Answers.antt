use Rattle.oat_attest.proofs.Running.{traces_are_walks}
use Rattle.oat_attest.proofs.laws.traces_are_walks.Goals as goal

pub returns : goal.returns
returns c = traces_are_walks
