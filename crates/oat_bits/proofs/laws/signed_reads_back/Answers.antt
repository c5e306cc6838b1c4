use Rattle.oat_bits.proofs.WordLemmas as lemmas
use Rattle.oat_bits.proofs.laws.signed_reads_back.Goals as goal

pub returns : goal.returns
returns c = lemmas.signed_reads_back
