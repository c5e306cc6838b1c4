use Rattle.oat_mem.proofs.Words.{words_are_bounded}
use Rattle.oat_mem.proofs.laws.words_are_bounded.Goals as goal

pub returns : goal.returns
returns c = words_are_bounded
