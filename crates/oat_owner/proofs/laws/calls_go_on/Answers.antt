use Rattle.oat_owner.proofs.Exchanging.{calls_go_on}
use Rattle.oat_owner.proofs.laws.calls_go_on.Goals as goal

pub returns : goal.returns
returns c = calls_go_on
