use Rattle.oat_tool.proofs.Owning.{numbers_are_accepted_once, acceptances_are_of_runs}
use Rattle.oat_tool.proofs.laws.owner.acceptances.Goals as goal

pub returns : goal.returns
returns c = record { once = numbers_are_accepted_once c.accepted_once.ensures; runs = acceptances_are_of_runs c.accepted_by_verdict.ensures }
