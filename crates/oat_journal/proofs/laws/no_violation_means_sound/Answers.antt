use Rattle.oat_journal.proofs.Reports.{no_violation_means_sound}
use Rattle.oat_journal.proofs.laws.no_violation_means_sound.Goals as goal

pub returns : goal.returns
returns c = no_violation_means_sound
