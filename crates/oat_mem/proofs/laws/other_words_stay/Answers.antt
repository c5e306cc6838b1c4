use Rattle.oat_mem.proofs.Words.{other_words_stay}
use Rattle.oat_mem.proofs.laws.other_words_stay.Goals as goal

pub returns : goal.returns
returns c = other_words_stay
