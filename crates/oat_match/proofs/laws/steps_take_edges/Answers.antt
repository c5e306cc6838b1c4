use Rattle.oat_match.proofs.Taking.{steps_take_edges}
use Rattle.oat_match.proofs.laws.steps_take_edges.Goals as goal

pub returns : goal.returns
returns c = steps_take_edges
