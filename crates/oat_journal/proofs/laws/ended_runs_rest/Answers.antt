use Rattle.oat_journal.proofs.TurnLaws.{ended_runs_rest}
use Rattle.oat_journal.proofs.laws.ended_runs_rest.Goals as goal

pub returns : goal.returns
returns c = ended_runs_rest
