use Rattle.oat_match.proofs.Starting.{starts_are_matched}
use Rattle.oat_match.proofs.laws.starts_are_matched.Goals as goal

pub returns : goal.returns
returns c = starts_are_matched
