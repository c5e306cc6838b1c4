use Rattle.oat_bits.proofs.WordLemmas as lemmas
use Rattle.oat_bits.proofs.laws.remainders_are_left.Goals as goal

pub returns : goal.returns
returns c = lemmas.remainders_are_left
