use Rattle.oat_tool.proofs.Attestations.{attest_is_complete}
use Rattle.oat_tool.proofs.laws.attest.complete.Goals as goal

pub returns : goal.returns
returns c = attest_is_complete c.attestations_are_complete.ensures
