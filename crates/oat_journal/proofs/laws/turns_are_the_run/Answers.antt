use Rattle.oat_journal.proofs.Progress.{turns_are_the_run}
use Rattle.oat_journal.proofs.laws.turns_are_the_run.Goals as goal

pub returns : goal.returns
returns c = turns_are_the_run
