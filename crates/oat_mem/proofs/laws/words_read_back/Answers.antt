use Rattle.oat_mem.proofs.Words.{words_read_back}
use Rattle.oat_mem.proofs.laws.words_read_back.Goals as goal

pub returns : goal.returns
returns c = words_read_back
