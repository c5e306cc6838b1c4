use Rattle.oat_chain.proofs.Messages.{clash_exists}
use Rattle.oat_chain.proofs.laws.clash_exists.Goals as goal

pub returns : goal.returns
returns c = clash_exists
