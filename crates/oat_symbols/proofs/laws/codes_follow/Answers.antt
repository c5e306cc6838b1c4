use Rattle.oat_symbols.proofs.Places.{codes_follow}
use Rattle.oat_symbols.proofs.laws.codes_follow.Goals as goal

pub returns : goal.returns
returns c = codes_follow
