use Rattle.oat_asm.proofs.StandingItems.{laid_words_encode}
use Rattle.oat_asm.proofs.laws.laid_words_encode.Goals as goal

pub returns : goal.returns
returns c = laid_words_encode
