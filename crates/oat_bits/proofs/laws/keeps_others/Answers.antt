use Rattle.oat_bits.proofs.FieldLemmas as lemmas
use Rattle.oat_bits.proofs.laws.keeps_others.Goals as goal

pub returns : goal.returns
returns c = lemmas.keeps_others
