use Rattle.oat_journal.proofs.Reports.{bodies_are_called_for}
use Rattle.oat_journal.proofs.laws.bodies_are_called_for.Goals as goal

pub returns : goal.returns
returns c = bodies_are_called_for
