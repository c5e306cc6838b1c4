use Rattle.oat_journal.proofs.TurnLaws.{measured_turns_follow}
use Rattle.oat_journal.proofs.laws.measured_turns_follow.Goals as goal

pub returns : goal.returns
returns c = measured_turns_follow
