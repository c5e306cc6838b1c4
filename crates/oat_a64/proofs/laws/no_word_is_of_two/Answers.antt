use Rattle.oat_a64.proofs.Same.{same}
use Rattle.oat_a64.proofs.laws.no_word_is_of_two.Goals as goal

pub returns : goal.returns
returns c = same
