use Rattle.oat_attest.proofs.Working.{second_is_false}
use Rattle.oat_attest.proofs.laws.second_is_false.Goals as goal

pub returns : goal.returns
returns c = second_is_false
