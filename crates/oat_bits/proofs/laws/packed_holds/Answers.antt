use Rattle.oat_bits.proofs.PackedForm as lemmas
use Rattle.oat_bits.proofs.laws.packed_holds.Goals as goal

pub returns : goal.returns
returns c = lemmas.bits_in-packed
