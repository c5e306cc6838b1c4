use Rattle.oat_attest.proofs.Working.{one_element_is_read}
use Rattle.oat_attest.proofs.laws.elements_are_read_by_their_loads.Goals as goal

pub returns : goal.returns
returns c = one_element_is_read
