use Rattle.oat_bits.proofs.WordLemmas as lemmas
use Rattle.oat_bits.proofs.laws.results_are_words.Goals as goal

pub returns : goal.returns
returns c = lemmas.results_are_words
