use Rattle.oat_check.proofs.Keeping.{words_are_few}
use Rattle.oat_check.proofs.laws.words_are_few.Goals as goal

pub returns : goal.returns
returns c = words_are_few
