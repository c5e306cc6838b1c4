use Rattle.oat_journal.proofs.Linkage.{journal_is_linked}
use Rattle.oat_journal.proofs.laws.journal_is_linked.Goals as goal

pub returns : goal.returns
returns c = journal_is_linked
