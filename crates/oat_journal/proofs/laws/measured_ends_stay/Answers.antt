use Rattle.oat_journal.proofs.TurnLaws.{measured_ends_stay}
use Rattle.oat_journal.proofs.laws.measured_ends_stay.Goals as goal

pub returns : goal.returns
returns c = measured_ends_stay
