use Rattle.oat_gen.proofs.Expanding.{other_code_stays}
use Rattle.oat_gen.proofs.laws.other_code_stays.Goals as goal

pub returns : goal.returns
returns c = other_code_stays
