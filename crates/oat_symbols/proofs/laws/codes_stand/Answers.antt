use Rattle.oat_symbols.proofs.Places.{codes_stand}
use Rattle.oat_symbols.proofs.laws.codes_stand.Goals as goal

pub returns : goal.returns
returns c = codes_stand
