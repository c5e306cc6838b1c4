use Rattle.oat_journal.proofs.TurnLaws.{turns_add}
use Rattle.oat_journal.proofs.laws.turns_add.Goals as goal

pub returns : goal.returns
returns c = turns_add
