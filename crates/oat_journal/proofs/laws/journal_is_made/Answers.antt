use Rattle.oat_journal.proofs.Linkage.{journal_is_made}
use Rattle.oat_journal.proofs.laws.journal_is_made.Goals as goal

pub returns : goal.returns
returns c = journal_is_made
