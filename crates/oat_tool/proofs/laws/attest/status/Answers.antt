use Rattle.oat_tool.proofs.Attestations.{attest_is_shown}
use Rattle.oat_tool.proofs.laws.attest.status.Goals as goal

pub returns : goal.returns
returns c = attest_is_shown c.windows_are_judged.ensures
