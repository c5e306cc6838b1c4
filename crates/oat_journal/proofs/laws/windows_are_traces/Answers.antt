use Rattle.oat_journal.proofs.Reports.{windows_are_traces}
use Rattle.oat_journal.proofs.laws.windows_are_traces.Goals as goal

pub returns : goal.returns
returns c = windows_are_traces
