use Rattle.oat_map.proofs.Turning.{returns_go_to_the_top}
use Rattle.oat_map.proofs.laws.returns_go_to_the_top.Goals as goal

pub returns : goal.returns
returns c = returns_go_to_the_top
