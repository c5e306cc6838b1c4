use Rattle.oat_journal.proofs.Lengths.{windows_are_short}
use Rattle.oat_journal.proofs.laws.windows_are_short.Goals as goal

pub returns : goal.returns
returns c = windows_are_short
