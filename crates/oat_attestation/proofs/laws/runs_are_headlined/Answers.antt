use Rattle.oat_attestation.proofs.Windows.{runs_are_headlined}
use Rattle.oat_attestation.proofs.laws.runs_are_headlined.Goals as goal

pub returns : goal.returns
returns c = runs_are_headlined c.headline.ensures c.acceptance_at_once.ensures
