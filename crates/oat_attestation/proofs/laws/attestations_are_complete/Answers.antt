use Rattle.oat_attestation.proofs.Honest.{attestations_are_complete}
use Rattle.oat_attestation.proofs.laws.attestations_are_complete.Goals as goal

pub returns : goal.returns
returns c = attestations_are_complete c.honest_runs_are_attested.ensures c.calls_are_counted.ensures c.bodies_are_called_for.ensures
