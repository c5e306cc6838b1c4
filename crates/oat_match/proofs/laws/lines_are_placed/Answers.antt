use Rattle.oat_match.proofs.Placing.{lines_are_placed}
use Rattle.oat_match.proofs.laws.lines_are_placed.Goals as goal

pub returns : goal.returns
returns c = lines_are_placed
