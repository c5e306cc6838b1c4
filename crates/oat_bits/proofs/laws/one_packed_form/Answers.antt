use Rattle.oat_bits.proofs.OnePackedForm as lemmas
use Rattle.oat_bits.proofs.laws.one_packed_form.Goals as goal

pub returns : goal.returns
returns c = lemmas.one_packed_form
