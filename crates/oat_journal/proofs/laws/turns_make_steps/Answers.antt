use Rattle.oat_journal.proofs.TurnLaws.{turns_make_steps}
use Rattle.oat_journal.proofs.laws.turns_make_steps.Goals as goal

pub returns : goal.returns
returns c = turns_make_steps
