use Rattle.oat_journal.proofs.Reports.{records_are_few}
use Rattle.oat_journal.proofs.laws.records_are_few.Goals as goal

pub returns : goal.returns
returns c = records_are_few
