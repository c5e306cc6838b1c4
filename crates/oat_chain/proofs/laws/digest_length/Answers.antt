use Rattle.oat_chain.proofs.Lengths.{length-digest}
use Rattle.oat_chain.proofs.laws.digest_length.Goals as goal

pub returns : goal.returns
returns c = length-digest
