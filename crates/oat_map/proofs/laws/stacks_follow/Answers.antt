use Rattle.oat_map.proofs.Turning.{stacks_follow}
use Rattle.oat_map.proofs.laws.stacks_follow.Goals as goal

pub returns : goal.returns
returns c = stacks_follow
