use Rattle.oat_journal.proofs.Reports.{bodies_tell_windows}
use Rattle.oat_journal.proofs.laws.bodies_tell_windows.Goals as goal

pub returns : goal.returns
returns c = bodies_tell_windows
