use Rattle.oat_bits.proofs.FieldLemmas as lemmas
use Rattle.oat_bits.proofs.laws.reads_back.Goals as goal

pub returns : goal.returns
returns c = lemmas.reads_back
