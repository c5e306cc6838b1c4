use Rattle.oat_attestation.proofs.Windows.{windows_are_judged}
use Rattle.oat_attestation.proofs.laws.windows_are_judged.Goals as goal

pub returns : goal.returns
returns c = windows_are_judged c.windows_are_counted.ensures
