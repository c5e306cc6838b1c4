use Rattle.oat_check.proofs.Sourcing.{calls_are_cut}
use Rattle.oat_check.proofs.laws.calls_are_cut.Goals as goal

pub returns : goal.returns
returns c = calls_are_cut
