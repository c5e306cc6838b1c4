use Rattle.oat_chain.proofs.Lengths.{length-chain}
use Rattle.oat_chain.proofs.laws.chain_length.Goals as goal

pub returns : goal.returns
returns c = length-chain
