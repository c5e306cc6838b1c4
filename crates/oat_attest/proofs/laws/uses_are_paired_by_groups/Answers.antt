use Rattle.oat_attest.proofs.Working.{two_uses_are_paired}
use Rattle.oat_attest.proofs.laws.uses_are_paired_by_groups.Goals as goal

pub returns : goal.returns
returns c = two_uses_are_paired
