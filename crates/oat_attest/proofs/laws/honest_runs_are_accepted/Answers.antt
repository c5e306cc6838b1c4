use Rattle.oat_attest.proofs.Running.{honest_runs_are_accepted}
use Rattle.oat_attest.proofs.laws.honest_runs_are_accepted.Goals as goal

pub returns : goal.returns
returns c = honest_runs_are_accepted
