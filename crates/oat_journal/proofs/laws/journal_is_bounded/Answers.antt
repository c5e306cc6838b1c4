use Rattle.oat_journal.proofs.Bounds.{journal_is_bounded}
use Rattle.oat_journal.proofs.laws.journal_is_bounded.Goals as goal

pub returns : goal.returns
returns c = journal_is_bounded
