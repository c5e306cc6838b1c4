use Rattle.oat_attestation.proofs.Honest.{honest_runs_are_attested}
use Rattle.oat_attestation.proofs.laws.honest_runs_are_attested.Goals as goal

pub returns : goal.returns
returns c = honest_runs_are_attested c.sound_runs_are_accepted.ensures
