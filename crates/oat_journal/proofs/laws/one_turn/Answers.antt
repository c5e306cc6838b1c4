use Rattle.oat_journal.proofs.TurnLaws.{one_turn}
use Rattle.oat_journal.proofs.laws.one_turn.Goals as goal

pub returns : goal.returns
returns c = one_turn
