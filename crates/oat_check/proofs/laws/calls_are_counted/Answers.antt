use Rattle.oat_check.proofs.Sourcing.{calls_are_counted}
use Rattle.oat_check.proofs.laws.calls_are_counted.Goals as goal

pub returns : goal.returns
returns c = calls_are_counted
