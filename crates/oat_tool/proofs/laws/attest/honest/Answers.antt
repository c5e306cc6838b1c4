use Rattle.oat_tool.proofs.Attestations.{attest_is_honest}
use Rattle.oat_tool.proofs.laws.attest.honest.Goals as goal

pub returns : goal.returns
returns c = attest_is_honest c.honest_runs_are_attested.ensures
