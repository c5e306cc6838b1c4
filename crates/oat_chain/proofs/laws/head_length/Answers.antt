use Rattle.oat_chain.proofs.Lengths.{length-window_head}
use Rattle.oat_chain.proofs.laws.head_length.Goals as goal

pub returns : goal.returns
returns c = length-window_head
