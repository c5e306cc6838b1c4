use Rattle.oat_bits.proofs.PackedForm as lemmas
use Rattle.oat_bits.proofs.laws.packed_length.Goals as goal

pub returns : goal.returns
returns c = λ bits. (lemmas.length-packed bits, lemmas.packed-below bits)
