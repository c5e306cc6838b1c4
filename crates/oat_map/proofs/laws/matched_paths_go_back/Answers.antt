use Rattle.oat_map.proofs.Turning.{matched_paths_go_back}
use Rattle.oat_map.proofs.laws.matched_paths_go_back.Goals as goal

pub returns : goal.returns
returns c = matched_paths_go_back
