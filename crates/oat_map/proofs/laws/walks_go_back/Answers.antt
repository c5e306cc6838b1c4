use Rattle.oat_map.proofs.Turning.{walks_go_back}
use Rattle.oat_map.proofs.laws.walks_go_back.Goals as goal

pub returns : goal.returns
returns c = walks_go_back
