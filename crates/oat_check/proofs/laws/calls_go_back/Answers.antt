use Rattle.oat_check.proofs.Sourcing.{calls_go_back}
use Rattle.oat_check.proofs.laws.calls_go_back.Goals as goal

pub returns : goal.returns
returns c = calls_go_back
